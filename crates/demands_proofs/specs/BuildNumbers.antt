-- Build's numbers: each is given exactly where what is tried before it holds of the base mesh of the caller's lists, and what it names does not.
-- "Build tries 21, then 3, 4, 5, 7, 8, 20", and document 02's 23 "before 20". Assumes nothing.
use Rattle.std.specs.Prelude.{◌≡◌, refl, ◌↔◌, List, [], ◌∷◌, ℕ, ℤ}
use Rattle.std.proofs.Common.{⊎_elim}
use Rattle.laws.specs.Below.{either}
use Rattle.laws.specs.Order.{Rule, rule, Giving, Judged, judge, done}
use Rattle.laws.proofs.Order.{given_exactly, accepted_exactly}
use Rattle.check_refusals.specs.Refusals.{hanging_vertices}
use Rattle.check_meaning.specs.Tests.{reads}
use Rattle.build_service.specs.Build.{build_rows, build_number}
use Rattle.build_meaning.specs.Written.{Given, written}
use Rattle.demands_words.specs.Words.{plain_base, Whole, CountsWithin, RightPlaces, RightPieces, RightTogether, AllUsed, NoVertexHangs, SomeVertexHangs, Roomy, BuildAccepts}
use Rattle.demands_proofs.specs.PlainRules.{whole_exactly, counts_exactly, places_exactly, pieces_exactly, together_exactly, used_exactly, hangs_exactly, none_exactly, room_exactly}

-- What build's rules ask, in the order in which they are tried.
abbrev pub build_rules : List ℤ → List ℕ → ℕ → List Rule
build_rules coordinates corners room =
    let b = plain_base coordinates corners in
    -- no "coordinates not three a vertex, or corners not four a piece"
    rule 21 (Whole coordinates corners)
    -- no "count beyond its bounds"
    ∷ rule 3 (CountsWithin b)
    -- no "base coordinate off the grid, [..] two base vertices at one place"
    ∷ rule 4 (RightPlaces b)
    -- no "base record with equal corners, a corner not in the base, sixfold volume 0"
    ∷ rule 5 (RightPieces b)
    -- no "face in three base records, two base records with the same four corners"
    ∷ rule 7 (RightTogether b)
    -- no "base vertex in no base record"
    ∷ rule 8 (AllUsed b)
    -- no "vertex [that] lies in the closed piece and isn't one of its corners"
    ∷ rule 23 (NoVertexHangs b)
    -- no "output buffer is shorter than the result"
    ∷ rule 20 (Roomy b room)
    ∷ []

pub record BuildExactly (job : ℕ) (coordinates : List ℤ) (corners : List ℕ) (room : ℕ) : Type 0 where
  -- each number exactly where every rule before it holds and its own does not, and no other number
  pub gives : (n : ℕ) → (build_number job coordinates corners room ≡ n) ↔ Giving (build_rules coordinates corners room) n
  -- "0 on acceptance"
  pub gives_0 : (build_number job coordinates corners room ≡ 0) ↔ BuildAccepts coordinates corners room

module _ (job : ℕ) (coordinates : List ℤ) (corners : List ℕ) (room : ℕ) (g : Given job coordinates corners) where
  build_judged : Judged (build_rows job coordinates corners room) (build_rules coordinates corners room)
  unfolding build_rows
  build_judged =
      judge (whole_exactly coordinates corners) λ h21. judge (counts_exactly coordinates corners job) λ h3.
      judge (places_exactly job coordinates corners g h3) λ h4. judge (pieces_exactly job coordinates corners g h3) λ h5.
      judge (together_exactly job coordinates corners g h3 h5) λ h7. judge (used_exactly job coordinates corners g h3 h5) λ h8.
      judge (none_exactly job coordinates corners g h3 h5) λ h23. judge (room_exactly job coordinates corners g h3 room) λ h20. done

  pub build_exactly : BuildExactly job coordinates corners room
  unfolding build_number build_rows
  build_exactly =
      record {
        gives = given_exactly build_judged refl;
        gives_0 = reads (accepted_exactly build_judged refl)
            (λ (whole, (counts, (places, (pieces, (together, (used, (inside, (roomy, end)))))))).
            record { whole = whole; counts = counts; places = places; pieces = pieces; together = together; used = used; no_vertex_hangs = inside; roomy = roomy })
            (λ x. (x.whole, (x.counts, (x.places, (x.pieces, (x.together, (x.used, (x.no_vertex_hangs, (x.roomy, tt)))))))));
      }

  -- With 23 there is a vertex that hangs on a piece, as they are listed.
  pub build_hangs : build_number job coordinates corners room ≡ 23 → SomeVertexHangs (plain_base coordinates corners)
  build_hangs e =
      let (h21, (h3, (h4, (h5, (h7, (h8, hanging)))))) = (build_exactly.gives 23).0 e in
      ⊎_elim (hangs_exactly job coordinates corners g h3 h5).0 (λ f. absurd (hanging ((none_exactly job coordinates corners g h3 h5).0 f))) (either (hanging_vertices (written job coordinates corners)))
