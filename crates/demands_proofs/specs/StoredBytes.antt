-- What stores a set of cuts is bytes. Assumes nothing.
use Rattle.std.proofs.Common.{sym, subst}
use Rattle.laws.specs.Lists.{Bytes}
use Rattle.stored.specs.Layout.{Stored}
use Rattle.stored.specs.Meshes.{MeshFits, mesh_is_bytes, mesh_grown_is_bytes}
use Rattle.demands_words.specs.Words.{StoredMesh, written}
use Rattle.demands_proofs.specs.Read.{written_fits}

module _ (s : Stored) (x : StoredMesh s) where
  fits : MeshFits s.kind (written x.job x.round x.base x.stores.numbers)
  fits =
      let y = x.stores in
      written_fits s.kind s.right x.job x.round x.base x.cuts x.right y.numbers y.vertices_numbered y.records_numbered y.job_fits y.round_fits y.materials

  pub stored_bytes : Bytes s.base
  stored_bytes =
      subst (λ (t : Stored). Bytes t.base) (sym x.stores.bytes) (mesh_is_bytes s.kind s.right (written x.job x.round x.base x.stores.numbers) fits)

  pub stored_grown_bytes : Bytes s.grown
  stored_grown_bytes =
      subst (λ (t : Stored). Bytes t.grown) (sym x.stores.bytes) (mesh_grown_is_bytes s.kind s.right (written x.job x.round x.base x.stores.numbers) fits)
