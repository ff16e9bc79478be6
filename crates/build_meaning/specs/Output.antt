-- Every byte of build's output buffer: it stays as long as it was, and past the result, or after a refusal, it is zero.
use Rattle.std.specs.Prelude.{◌≡◌, ◌≢◌, List, ℕ, ◌≤◌, length, replicate, ℤ, eqb}
use Rattle.std.proofs.Common.{⊎_elim, arith, length-append, eqb-true, eq-eqb, ne_eqb}
use Rattle.std.proofs.lemmas.List.{length-replicate}
use Rattle.std.proofs.lemmas.Bool.{eqb-false}
use Rattle.laws.specs.Lists.{zero_past}
use Rattle.laws.specs.Below.{either}
use Rattle.build_service.specs.Build.{plain_bytes, build_number, build_bytes}
use Rattle.build_meaning.specs.Accepts.{passed}

module _ (job : ℕ) (coordinates : List ℤ) (corners : List ℕ) (room : ℕ) where
  -- After acceptance the buffer holds the stored mesh, and zeros past it.
  pub accepted_bytes : build_number job coordinates corners room ≡ 0 →
      build_bytes job coordinates corners room ≡ zero_past room (plain_bytes job coordinates corners)
  unfolding build_bytes
  accepted_bytes e = rw (eq-eqb (build_number job coordinates corners room) 0 e)

  -- After a refusal the buffer is zero throughout.
  pub refused_bytes : build_number job coordinates corners room ≢ 0 → build_bytes job coordinates corners room ≡ replicate room 0
  unfolding build_bytes
  refused_bytes n = rw (ne_eqb (build_number job coordinates corners room) 0 n)

  -- The buffer keeps its length.
  pub output_length : length (build_bytes job coordinates corners room) ≡ room
  output_length =
      let number = build_number job coordinates corners room in
      let bytes = plain_bytes job coordinates corners in
      ⊎_elim
      (λ t.
      let e = eqb-true number 0 t in
      let fits : length bytes ≤ room = (passed job coordinates corners room e).fits in
      rw (accepted_bytes e) (simp (length-append, length-replicate) (omega arith)))
      (λ f. rw (refused_bytes (eqb-false number 0 f)) (length-replicate room 0))
      (either (eqb number 0))
