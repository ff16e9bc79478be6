-- What is lent to refusal 9: links by parent pair, and the two tables of counts.
use Rattle.std.specs.Prelude.{◌≡◌, Bool, false, ◌||◌, List, ℕ, ◌≤◌, length}
use Rattle.std.proofs.Math.Dec.{ltb}
use borrow.Author.Tests.{ltb-false, le-ltb}
use Rattle.laws.specs.Below.{or_left_false, or_right_false}
use Rattle.laws.specs.Links.{short, Roomy, roomy, not_short}
use Rattle.stored.specs.declared.Header.{Header}

-- There is no room for the links of all vertices, or no place for some record or vertex.
unfoldable pub cramped : Header → List ℕ → List ℕ → List ℕ → List ℕ → Bool
cramped h heads nexts children midpoints =
    short heads nexts h.vertices || ltb (length children) h.records || ltb (length midpoints) h.vertices

-- There is.
pub record Room (h : Header) (heads nexts children midpoints : List ℕ) : Type 0 where
  pub links : Roomy heads nexts h.vertices
  pub records : h.records ≤ length children
  pub vertices : h.vertices ≤ length midpoints

module _ (h : Header) (heads nexts children midpoints : List ℕ) where
  pub room : cramped h heads nexts children midpoints ≡ false → Room h heads nexts children midpoints
  unfolding cramped
  room e =
      let a = short heads nexts h.vertices in
      let b = ltb (length children) h.records in
      let c = ltb (length midpoints) h.vertices in
      let ab = or_left_false (a || b) c e in
      record {
        links = roomy heads nexts h.vertices (or_left_false a b ab);
        records = ltb-false (length children) h.records (or_right_false a b ab);
        vertices = ltb-false (length midpoints) h.vertices (or_right_false (a || b) c e);
      }

  pub not_cramped : Room h heads nexts children midpoints → cramped h heads nexts children midpoints ≡ false
  unfolding cramped
  not_cramped r =
      rw (
        not_short heads nexts h.vertices r.links,
        le-ltb (length children) h.records r.records,
        le-ltb (length midpoints) h.vertices r.vertices,
      )
