-- Document 01, "The marked piece": slots, edge codes and faces.
use Rattle.std.specs.Prelude.{Bool, not, cond, ◌&&◌, ◌||◌, [], ◌∷◌, ◌≡◌, ℕ, zero, suc, ◌≤◌, ◌<◌, get_or, eqb, ltb}
use Rattle.std.proofs.Common.{sym, arith}
use Rattle.std.proofs.Math.ListN.{get_or-eq_default}
use Rattle.laws.specs.Below.{first_below}

-- "Edge codes by slots: 0 is 01, 1 is 02, 2 is 03, 3 is 12, 4 is 13, 5 is 23." The first slot of a code, and the second.
-- A code above 5 is impossible: both its slots are 0.
unfoldable pub low_slot : ℕ → ℕ
low_slot e = get_or (0 ∷ 0 ∷ 0 ∷ 1 ∷ 1 ∷ 2 ∷ []) e 0

unfoldable pub high_slot : ℕ → ℕ
high_slot e = get_or (1 ∷ 2 ∷ 3 ∷ 2 ∷ 3 ∷ 3 ∷ []) e 0

-- A code above 5 has slot 0.
pub low_past : (e : ℕ) → 6 ≤ e → 0 ≡ low_slot e
unfolding low_slot
low_past e h = sym (get_or-eq_default (0 ∷ 0 ∷ 0 ∷ 1 ∷ 1 ∷ 2 ∷ []) 0 h)

pub high_past : (e : ℕ) → 6 ≤ e → 0 ≡ high_slot e
unfolding high_slot
high_past e h = sym (get_or-eq_default (1 ∷ 2 ∷ 3 ∷ 2 ∷ 3 ∷ 3 ∷ []) 0 h)

-- Every slot of every code is below 4.
pub slots_small : (e : ℕ) → (low_slot e < 4) × (high_slot e < 4)
unfolding low_slot high_slot
slots_small zero = omega arith
slots_small (suc zero) = omega arith
slots_small (suc (suc zero)) = omega arith
slots_small (suc (suc (suc zero))) = omega arith
slots_small (suc (suc (suc (suc zero)))) = omega arith
slots_small (suc (suc (suc (suc (suc zero))))) = omega arith
slots_small (suc (suc (suc (suc (suc (suc e)))))) = omega arith

-- Slot k is an end of edge e.
unfoldable pub has_slot : ℕ → ℕ → Bool
has_slot e k = eqb (low_slot e) k || eqb (high_slot e) k

-- Of an edge and one of its ends, the other end.
unfoldable pub other_end : ℕ → ℕ → ℕ
other_end e k = cond (eqb (low_slot e) k) (high_slot e) (low_slot e)

-- Edge e joins slots j and k.
unfoldable pub joins : ℕ → ℕ → ℕ → Bool
joins j k e = not (eqb j k) && (has_slot e j && has_slot e k)

-- The code of the edge between two slots, and 6 where there is none.
unfoldable pub edge_between : ℕ → ℕ → ℕ
edge_between j k = first_below 6 (joins j k)

-- "Face i is the face without slot i." Edge e is an edge of face i.
unfoldable pub on_face : ℕ → ℕ → Bool
on_face e i = ltb e 6 && not (has_slot e i)

-- Edge e is the edge of face i opposite slot k: it is without k.
unfoldable pub opposite : ℕ → ℕ → ℕ → Bool
opposite i k e = on_face e i && on_face e k

unfoldable pub opposite_on : ℕ → ℕ → ℕ
opposite_on i k = first_below 6 (opposite i k)

-- Edges e and f share slot k.
unfoldable pub shares : ℕ → ℕ → ℕ → Bool
shares e f k = has_slot e k && has_slot f k

-- The slot that two edges share, and 4 where there is none.
unfoldable pub shared_slot : ℕ → ℕ → ℕ
shared_slot e f = first_below 4 (shares e f)
