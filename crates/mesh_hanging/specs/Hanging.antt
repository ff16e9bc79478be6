-- Whether a leaf hangs, as it is found along the links of the made vertices. Assumes nothing.
use Rattle.std.specs.Prelude.{◌≡◌, Bool, true, false, not, ◌&&◌, List, ℕ, ◌≤◌, ◌<◌, eqb, ltb, length, get_or}
use Rattle.std.proofs.Common.{sym, ◌∙◌, le_refl, eqb-true}
use Rattle.std.proofs.Math.Logic.{⊎_elim}
use Rattle.std.proofs.lemmas.Bool.{not-false}
use Rattle.laws.specs.Below.{any_below, any_fails, any_fails_at, any_same, and_false, either}
use Rattle.laws.specs.Links.{any_along, any_along_none, Chain, chain_any}
use Rattle.piece.specs.declared.Ends.{Ends}
use Rattle.piece.specs.Ends.{ends_of, ends_at, ends_at_lem}
use Rattle.mesh_tables.specs.Tables.{Tables, all_vertices, piece_at, is_leaf, has_parents, hangs, hangs_at, leaf_hangs}
use Rattle.mesh_parents.specs.Pairs.{pair_key, key_of, Linked, pair_key_within, has_key, any_with_is}

-- What is no leaf has no hanging edge.
pub not_leaf : (m : Tables) (n : ℕ) → is_leaf m n ≡ false → leaf_hangs m n ≡ false
unfolding leaf_hangs hangs_at
not_leaf m n f = any_fails (hangs_at m n) 6 (λ e l. rw f)

-- ---- along the links of the made vertices

-- An edge is found to hang as among all vertices.
pub linked_hangs : (m : Tables) (heads nexts : List ℕ) → Linked m heads nexts → (ends : Ends) → any_along nexts (has_parents m ends) (get_or heads (pair_key (length heads) ends) 0) ≡ hangs m ends
unfolding hangs
linked_hangs m heads nexts k ends =
    chain_any (key_of (length heads) m) (all_vertices m) heads nexts k.chain (has_parents m ends) (pair_key (length heads) ends) (pair_key_within (length heads) ends k.keys) (λ u l t. has_key (length heads) m ends u t)

-- As found along links that may lead to more vertices than the tables have: the edge with these ends hangs; an edge of a piece with these
-- corners hangs; record n is a leaf and an edge of it hangs.
unfoldable pub hangs_along : Tables → List ℕ → List ℕ → Ends → Bool
hangs_along m heads nexts ends = any_along nexts (λ u. ltb u (all_vertices m) && has_parents m ends u) (get_or heads (pair_key (length heads) ends) 0)

unfoldable pub corners_hang : Tables → List ℕ → List ℕ → List ℕ → Bool
corners_hang m heads nexts corners = any_below 6 (λ e. hangs_along m heads nexts (ends_at corners e))

unfoldable pub leaf_hangs_along : Tables → List ℕ → List ℕ → ℕ → Bool
leaf_hangs_along m heads nexts n = is_leaf m n && corners_hang m heads nexts (piece_at m n).corners

-- It is what hangs.
module _ (m : Tables) (k : ℕ) (heads nexts : List ℕ) (c : Chain (key_of (length heads) m) k heads nexts) (some : 0 < length heads) (up : all_vertices m ≤ k) where
  -- Of edge e of a leaf.
  edge_hangs_along : (n e : ℕ) → is_leaf m n ≡ true → hangs_along m heads nexts (ends_at (piece_at m n).corners e) ≡ hangs_at m n e
  unfolding hangs_along hangs_at hangs
  edge_hangs_along n e leaf =
      rw (leaf, ends_at_lem (piece_at m n) e) (any_with_is m (key_of (length heads) m) k heads nexts c some (ends_of (piece_at m n) e) (λ u t. has_key (length heads) m (ends_of (piece_at m n) e) u t) (all_vertices m) up)

  pub leaf_hangs_along_lem : (n : ℕ) → leaf_hangs_along m heads nexts n ≡ leaf_hangs m n
  unfolding leaf_hangs_along corners_hang leaf_hangs
  leaf_hangs_along_lem n =
      ⊎_elim
      (λ t. rw t (any_same 6 (λ e. hangs_along m heads nexts (ends_at (piece_at m n).corners e)) (hangs_at m n) (λ e l. edge_hangs_along n e t)))
      (λ f. rw f (sym (not_leaf m n f)))
      (either (is_leaf m n))

-- There are links with the key of these ends; with the key of an edge's ends.
unfoldable pub is_linked : List ℕ → Ends → Bool
is_linked heads ends = not (eqb (get_or heads (pair_key (length heads) ends) 0) 0)

unfoldable pub any_linked : List ℕ → List ℕ → Bool
any_linked heads corners = any_below 6 (λ e. is_linked heads (ends_at corners e))

-- Where there are none, no edge hangs.
pub not_linked : (m : Tables) (heads nexts corners : List ℕ) → any_linked heads corners ≡ false → corners_hang m heads nexts corners ≡ false
unfolding corners_hang hangs_along any_linked is_linked
not_linked m heads nexts corners none =
    any_fails (λ e. hangs_along m heads nexts (ends_at corners e)) 6
    (λ e l.
    let at = get_or heads (pair_key (length heads) (ends_at corners e)) 0 in
    let no = not-false (eqb at 0) (any_fails_at (λ x. is_linked heads (ends_at corners x)) 6 e none l) in
    rw (eqb-true at 0 no) (any_along_none nexts (λ u. ltb u (all_vertices m) && has_parents m (ends_at corners e) u)))

-- So it is of record n, which has these corners.
pub leaf_not_linked : (m : Tables) (heads nexts : List ℕ) → Linked m heads nexts → (n : ℕ) → any_linked heads (piece_at m n).corners ≡ false → leaf_hangs m n ≡ false
unfolding leaf_hangs_along
leaf_not_linked m heads nexts k n none =
    sym (leaf_hangs_along_lem m (all_vertices m) heads nexts k.chain k.keys (le_refl (all_vertices m)) n)
    ∙ rw (not_linked m heads nexts (piece_at m n).corners none) (and_false (is_leaf m n))
