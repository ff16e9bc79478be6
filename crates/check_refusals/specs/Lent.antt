-- What a service lends to the rules: lists of these lengths, which have room for a mesh with this header.
use Rattle.std.specs.Prelude.{◌≡◌, Bool, false, ◌||◌, List, ℕ, ◌*◌, ◌≤◌, ◌<◌, length, replicate}
use Rattle.std.proofs.Common.{sym, ap, ◌∙◌, arith}
use Rattle.std.proofs.lemmas.List.{length-replicate}
use Rattle.laws.specs.Links.{greatest, short, not_short, Empty}
use Rattle.stored.specs.declared.Header.{Header}
use Rattle.stored.specs.Layout.{limits}
use Rattle.check_refusals.specs.Bounded.{Bounded}

-- Links of so many numbers, in lists with so many keys and places.
pub record LinksFit (keys places n : ℕ) : Type 0 where
  pub some : 0 < keys
  pub enough : n ≤ places
  pub fits : n ≤ greatest

-- Such lists are not too short.
pub fit_not_short : (heads nexts : List ℕ) (keys places n : ℕ) → length heads ≡ keys → length nexts ≡ places → LinksFit keys places n → short heads nexts n ≡ false
fit_not_short heads nexts keys places n h t f = not_short heads nexts n (record { keys = rw h f.some; places = rw t f.enough; fits = f.fits })

-- Where what is lent is not too short, what is found is the rule alone.
pub where_lent : {short rule found : Bool} → found ≡ (short || rule) → short ≡ false → rule ≡ found
where_lent {rule = rule} e s = sym (e ∙ ap (λ (b : Bool). b || rule) s)

-- Heads that were just made are empty.
pub just_made : (n : ℕ) → Empty (replicate n 0)
just_made n = sym (ap (λ (k : ℕ). replicate k 0) (length-replicate {A = ℕ} n 0))

-- To the rules on the base: links of the vertices, of the base vertices and of the base records' faces, and a count for each base vertex.
pub record LentToBase (h : Header) (heads face_heads links uses : ℕ) : Type 0 where
  pub vertices : LinksFit heads links h.vertices
  pub base_vertices_lem : LinksFit heads links h.base_vertices
  pub faces : LinksFit face_heads links (4 * h.base_records)
  pub each_base_vertex : h.base_vertices ≤ uses

-- To the rules on the cuts: links of the vertices, and a count for each record and each vertex.
pub record LentToCuts (h : Header) (heads links children midpoints : ℕ) : Type 0 where
  pub vertices : LinksFit heads links h.vertices
  pub each_record : h.records ≤ children
  pub each_vertex : h.vertices ≤ midpoints

-- What version 1 has: keys, a link for each face of the base records, and a count for each possible vertex and each possible record.
module _ (h : Header) (b : Bounded limits h) where
  pub lent_to_base : LentToBase h 8192 32768 (4 * limits.records) limits.vertices
  lent_to_base =
      record {
        vertices = record { some = omega arith; enough = omega (arith, b.vertices); fits = omega (arith, b.vertices) };
        base_vertices_lem =
            record { some = omega arith; enough = omega (arith, b.vertices, b.base_vertices); fits = omega (arith, b.vertices, b.base_vertices) };
        faces = record { some = omega arith; enough = omega (arith, b.records, b.base_records); fits = omega (arith, b.records, b.base_records) };
        each_base_vertex = omega (arith, b.vertices, b.base_vertices);
      }

  pub lent_to_cuts : LentToCuts h 8192 (4 * limits.records) limits.records limits.vertices
  lent_to_cuts =
      record {
        vertices = record { some = omega arith; enough = omega (arith, b.vertices); fits = omega (arith, b.vertices) };
        each_record = b.records;
        each_vertex = b.vertices;
      }
