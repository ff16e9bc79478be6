-- The place found hanging, as the search returns it.
use Rattle.std.specs.Prelude.{◌≡◌, refl, Bool, false, cond, List, Option, Some, None, ℕ, ◌≤◌, ◌<◌}
use Rattle.std.proofs.Math.Bool.{true}
use Rattle.std.proofs.Common.{arith}
use Rattle.std.proofs.lemmas.Bool.{lt-leb}
use Rattle.laws.specs.Below.{any_below, any_is, any_fails, first_below, first_is, and_false}
use Rattle.laws.specs.Links.{short, Roomy, not_short}
use Rattle.piece.specs.declared.Ends.{Ends}
use Rattle.piece.specs.Ends.{ends_of}
use Rattle.check_hanging.specs.declared.HangingEdge.{HangingEdge}
use Rattle.check_refusals.specs.declared.Report.{Report}
use Rattle.mesh_tables.specs.Tables.{Tables, base_vertices, all_vertices, all_records, piece_at, is_leaf, has_parents, hangs, hangs_at, leaf_hangs, hanging_edge}
use Rattle.check_refusals.specs.Check.{first_hanging, refused_with, hanging_report}

-- Edge e of record n.
abbrev pub edge_of : ℕ → ℕ → HangingEdge
edge_of n e = record { «record» = n; edge = e }

unfoldable pub found_of : Tables → Option HangingEdge
found_of m = cond (hanging_edge m) (Some (edge_of (first_hanging m) (first_below 6 (hangs_at m (first_hanging m))))) None

-- What there is to report before the figures where no rule is broken.
abbrev pub none_broken : Report
none_broken = refused_with 0

-- "If an answer is an enum, a definition gives this paper's number and values for each of its cases."
abbrev pub reported : Option HangingEdge → Report
reported (Some found) = record { number = 10; leaves = 0; deepest = 0; sixfold = 0; «record» = found.«record»; edge = found.edge }
reported None = none_broken

-- It is check's own report of a hanging edge.
pub found_reported : (m : Tables) → reported (found_of m) ≡ cond (hanging_edge m) (hanging_report m) none_broken
unfolding found_of
found_reported m = go (hanging_edge m)
  where
    go : (b : Bool) → reported (cond b (Some (edge_of (first_hanging m) (first_below 6 (hangs_at m (first_hanging m))))) None) ≡ cond b (hanging_report m) none_broken
    go true = refl
    go false = refl

-- With lists that are too short for the links nothing is looked for.
unfoldable pub found_along : List ℕ → List ℕ → Tables → Option HangingEdge
found_along heads nexts m = let found = found_of m in cond (short heads nexts (all_vertices m)) None found

-- With room for them it is the place found.
pub roomy_found : (heads nexts : List ℕ) (m : Tables) → Roomy heads nexts (all_vertices m) → found_along heads nexts m ≡ found_of m
unfolding found_along
roomy_found heads nexts m r = rw (not_short heads nexts (all_vertices m) r)

module _ (m : Tables) (n e : ℕ) (ends : Ends) (is : ends ≡ ends_of (piece_at m n) e) where
  -- No made vertex has its ends as parents: the edge does not hang.
  pub rests : hangs m ends ≡ false → hangs_at m n e ≡ false
  unfolding hangs_at
  rests f = rw (← is, f) (and_false (is_leaf m n))

  hanging_is : is_leaf m n ≡ true → hangs m ends ≡ true → hangs_at m n e ≡ true
  unfolding hangs_at
  hanging_is leaf has = rw (leaf, ← is) has

  leaf_is : e < 6 → hangs_at m n e ≡ true → leaf_hangs m n ≡ true
  unfolding leaf_hangs
  leaf_is edge hanging = any_is (hangs_at m n) 6 e edge hanging

  -- A leaf's edge with such a vertex is the place to be reported, if the search passed none before it.
  pub place_found : n < all_records m → any_below n (leaf_hangs m) ≡ false → is_leaf m n ≡ true → e < 6 → any_below e (hangs_at m n) ≡ false → hangs m ends ≡ true → Some (edge_of n e) ≡ found_of m
  unfolding found_of hanging_edge first_hanging
  place_found inside before leaf edge earlier has =
      let hanging : hangs_at m n e ≡ true = hanging_is leaf has in
      let leaf_hanging : leaf_hangs m n ≡ true = leaf_is edge hanging in
      rw (
        any_is (leaf_hangs m) (all_records m) n inside leaf_hanging,
        first_is (leaf_hangs m) (all_records m) n inside before leaf_hanging,
        first_is (hangs_at m n) 6 e edge earlier hanging,
      )

-- None was found.
pub none_found : (m : Tables) → any_below (all_records m) (leaf_hangs m) ≡ false → None ≡ found_of m
unfolding found_of hanging_edge
none_found m f = rw f

-- Where no vertex is made, no edge hangs.
pub none_made : (m : Tables) → all_vertices m ≤ base_vertices m → None ≡ found_of m
unfolding leaf_hangs hangs_at hangs has_parents
none_made m few =
    none_found m
    (any_fails (leaf_hangs m) (all_records m)
    (λ n l. any_fails (hangs_at m n) 6
    (λ e k. rw (any_fails (has_parents m (ends_of (piece_at m n) e)) (all_vertices m) (λ v b. rw (lt-leb (base_vertices m) v (omega arith)))) (and_false (is_leaf m n)))))
