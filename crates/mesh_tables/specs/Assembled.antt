-- Tables that were worked on, and the mesh in one buffer that is assembled from them: check finds the same tables there.
use Rattle.std.specs.Prelude.{◌≡◌, refl, false, List, [], ℕ, ◌*◌, ◌≤◌, length}
use Rattle.std.proofs.Common.{sym, ap, ◌∙◌}
use Rattle.stored.specs.declared.Kind.{Kind}
use Rattle.stored.specs.declared.Header.{Header}
use Rattle.stored.specs.Layout.{vertex_width, record_width, layout_of, working, assembled, RightKind}
use Rattle.stored.specs.Fitting.{HeaderFits}
use Rattle.stored.specs.Worked.{assembled_header, assembled_vertices, assembled_records}
use Rattle.mesh_tables.specs.Tables.{tables, tables_of}

pub tables_assembled : (k : Kind) (right : RightKind k) → k.two ≡ false → (h : Header) → HeaderFits k.format h → (vertices records : List ℕ) →
    vertex_width k.format * h.vertices ≤ length vertices → record_width k.format * h.records ≤ length records →
    tables h (working k.format h.vertices h.records) vertices records
    ≡ tables_of (record { kind = k; right = right; base = assembled k.format h vertices records; grown = [] })
unfolding tables_of
tables_assembled k right one h fits vertices records v r =
    let f = k.format in
    let s : List ℕ = assembled f h vertices records in
    (λ i.
    record {
      header = h;
      vertex_at = assembled_vertices f h vertices records v r k one refl [] i;
      record_at = assembled_records f h vertices records v r k one refl [] i;
    })
    ∙ ap (λ (g : Header). tables g (layout_of k g) s []) (sym (assembled_header f h vertices records v r fits))
