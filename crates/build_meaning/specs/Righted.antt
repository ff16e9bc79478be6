-- Document 02, "Three": what the exchange of a left-handed piece's last two corners changes, and what it does not.
use Rattle.std.specs.Prelude.{◌≡◌, refl, Bool, cond, ◌↔◌, ◌≢◌, List, ℕ, zero, suc, ◌<◌, length, eqb, ℤ, nat_abs, ◌<ℤ◌}
use Rattle.std.proofs.Math.Path.{sym}
use Rattle.std.proofs.Common.{ap, ◌∙◌, subst, arith}
use Rattle.std.proofs.Math.Logic.{⊎_elim}
use Rattle.std.proofs.Math.IntN.{pos}
use Rattle.laws.specs.Below.{either}
use Rattle.piece.specs.declared.Piece.{Piece}
use Rattle.piece.specs.Ends.{corner_at}
use Rattle.grid.specs.Places.{Point}
use Rattle.grid.specs.Corners.{exchanged}
use Rattle.grid_volume.specs.Volume.{signed_of, left_handed, sixfold_of}
use Rattle.grid_volume.specs.Formal.{same_corners_lem}
use Rattle.grid_volume.specs.VolumeTheorems.{sixfold_exchanged}
use Rattle.grid_volume.specs.Handed.{right_by_exchange, right_unless_left}
use Rattle.grid_inside.specs.Weights.{WeightedMean}
use Rattle.grid_inside.specs.Corners.{mean_four, mean_exchanged, exchanged_mean}
use Rattle.check_meaning.specs.Accepted.{SameRecordFace}
use Rattle.build_marks.specs.Marking.{plain_point, last_exchanged, righted_piece}
use Rattle.build_meaning.specs.Edges.{Different}

-- A sixfold volume goes by the four corners alone.
pub sixfold_four : (f g : ℕ → Point) → ((k : ℕ) → k < 4 → f k ≡ g k) → sixfold_of f ≡ sixfold_of g
unfolding sixfold_of
sixfold_four f g h = ap nat_abs (same_corners_lem f g h)

-- ---- slots

-- Slots 2 and 3 exchanged.
abbrev pub turned_slot : ℕ → ℕ
turned_slot k = cond (eqb k 2) 3 (cond (eqb k 3) 2 k)

-- The slot in which the corner in slot k was given, and the slot into which the one given in slot k has come: one exchange is its own way back.
unfoldable pub slot_given : List ℤ → Piece → ℕ → ℕ
slot_given coordinates p k = cond (left_handed (plain_point coordinates p)) (turned_slot k) k

turned_small : (k : ℕ) → k < 4 → turned_slot k < 4
turned_small zero l = omega arith
turned_small (suc zero) l = omega arith
turned_small (suc (suc zero)) l = omega arith
turned_small (suc (suc (suc zero))) l = omega arith
turned_small (suc (suc (suc (suc k)))) l = absurd (omega arith)

turned_twice : (k : ℕ) → k < 4 → turned_slot (turned_slot k) ≡ k
turned_twice zero l = refl
turned_twice (suc zero) l = refl
turned_twice (suc (suc zero)) l = refl
turned_twice (suc (suc (suc zero))) l = refl
turned_twice (suc (suc (suc (suc k)))) l = absurd (omega arith)

turned_corner : (p : Piece) (k : ℕ) → k < 4 → corner_at (last_exchanged p) k ≡ corner_at p (turned_slot k)
unfolding last_exchanged
turned_corner p zero l = refl
turned_corner p (suc zero) l = refl
turned_corner p (suc (suc zero)) l = refl
turned_corner p (suc (suc (suc zero))) l = refl
turned_corner p (suc (suc (suc (suc k)))) l = absurd (omega arith)

turned_point : (coordinates : List ℤ) (p : Piece) (k : ℕ) → k < 4 → plain_point coordinates (last_exchanged p) k ≡ exchanged 2 3 (plain_point coordinates p) k
unfolding last_exchanged
turned_point coordinates p zero l = refl
turned_point coordinates p (suc zero) l = refl
turned_point coordinates p (suc (suc zero)) l = refl
turned_point coordinates p (suc (suc (suc zero))) l = refl
turned_point coordinates p (suc (suc (suc (suc k)))) l = absurd (omega arith)

module _ (coordinates : List ℤ) (p : Piece) where
  abbrev left : Bool
  left = left_handed (plain_point coordinates p)

  pub slot_small : (k : ℕ) → k < 4 → slot_given coordinates p k < 4
  unfolding slot_given
  slot_small k l = ⊎_elim (λ t. rw t (turned_small k l)) (λ f. rw f l) (either left)

  pub slot_twice : (k : ℕ) → k < 4 → slot_given coordinates p (slot_given coordinates p k) ≡ k
  unfolding slot_given
  slot_twice k l = ⊎_elim (λ t. rw t (turned_twice k l)) (λ f. rw f) (either left)

  pub slot_once : (j k : ℕ) → j < 4 → k < 4 → slot_given coordinates p j ≡ slot_given coordinates p k → j ≡ k
  slot_once j k lj lk e = sym (slot_twice j lj) ∙ ap (slot_given coordinates p) e ∙ slot_twice k lk

  -- ---- corners

  pub righted_corner : (k : ℕ) → k < 4 → corner_at (righted_piece coordinates p) k ≡ corner_at p (slot_given coordinates p k)
  unfolding righted_piece slot_given
  righted_corner k l = ⊎_elim (λ t. rw t (turned_corner p k l)) (λ f. rw f) (either left)

  -- And the other way round.
  pub given_corner : (k : ℕ) → k < 4 → corner_at p k ≡ corner_at (righted_piece coordinates p) (slot_given coordinates p k)
  given_corner k l = ap (corner_at p) (sym (slot_twice k l)) ∙ sym (righted_corner (slot_given coordinates p k) (slot_small k l))

  pub righted_material : (righted_piece coordinates p).material ≡ p.material
  unfolding righted_piece last_exchanged
  righted_material = ⊎_elim (λ t. rw t) (λ f. rw f) (either left)

  pub righted_four : length p.corners ≡ 4 → length (righted_piece coordinates p).corners ≡ 4
  unfolding righted_piece last_exchanged
  righted_four four = ⊎_elim (λ t. rw t) (λ f. rw f four) (either left)

  pub righted_different : Different p → Different (righted_piece coordinates p)
  righted_different d j k lj lk e =
      slot_once j k lj lk (d (slot_given coordinates p j) (slot_given coordinates p k) (slot_small j lj) (slot_small k lk) (sym (righted_corner j lj) ∙ e ∙ righted_corner k lk))

  -- Face i as given, and the face that it has become.
  pub same_face_given : (i : ℕ) → i < 4 → SameRecordFace (righted_piece coordinates p) (slot_given coordinates p i) p i
  same_face_given i li x = (
    λ c. let (k, l, other, e) = c in
        (slot_given coordinates p k, slot_small k l, (λ s. other (sym (slot_twice k l) ∙ ap (slot_given coordinates p) s)), sym (righted_corner k l) ∙ e),
    λ c. let (k, l, other, e) = c in
        (slot_given coordinates p k, slot_small k l, (λ s. other (slot_once k i l li s)), sym (given_corner k l) ∙ e),
  )

  -- ---- the signed value

  -- Where the corners stand, the last two exchanged or not.
  pub righted_sixfold : sixfold_of (plain_point coordinates (righted_piece coordinates p)) ≡ sixfold_of (plain_point coordinates p)
  unfolding righted_piece
  righted_sixfold =
      ⊎_elim
      (λ t. rw t (sixfold_four (plain_point coordinates (last_exchanged p)) (exchanged 2 3 (plain_point coordinates p)) (turned_point coordinates p)
      ∙ sixfold_exchanged (plain_point coordinates p) 2 3 (omega arith) (omega arith) (λ e. omega arith)))
      (λ f. rw f)
      (either left)

  -- What is not flat is right-handed then.
  pub righted_positive : sixfold_of (plain_point coordinates p) ≢ 0 → pos 0 <ℤ signed_of (plain_point coordinates (righted_piece coordinates p))
  unfolding righted_piece
  righted_positive solid =
      ⊎_elim
      (λ t. rw t (subst (λ (z : ℤ). pos 0 <ℤ z)
      (sym (same_corners_lem (plain_point coordinates (last_exchanged p)) (exchanged 2 3 (plain_point coordinates p)) (turned_point coordinates p)))
      (right_by_exchange (plain_point coordinates p) 2 3 (omega arith) (omega arith) (λ e. omega arith) t)))
      (λ f. rw f (right_unless_left (plain_point coordinates p) solid f))
      (either left)

  -- What lies in the closed piece is the same.
  pub righted_closed : (v : Point) → WeightedMean (plain_point coordinates (righted_piece coordinates p)) v ↔ WeightedMean (plain_point coordinates p) v
  unfolding righted_piece
  righted_closed v =
      let given = plain_point coordinates p in
      let turned = plain_point coordinates (last_exchanged p) in
      ⊎_elim
      (λ t. rw t (
        λ mean. exchanged_mean given v (mean_four turned (exchanged 2 3 given) (turned_point coordinates p) v mean),
        λ mean. mean_four (exchanged 2 3 given) turned (λ k l. sym (turned_point coordinates p k l)) v (mean_exchanged given v mean),
      ))
      (λ f. rw f (λ mean. mean, λ mean. mean))
      (either left)
