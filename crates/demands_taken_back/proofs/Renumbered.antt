-- Of specs/Renumbered.antt, the theorems that an edit of a definition breaks, and what only they need.
use Rattle.std.specs.Prelude.{◌≡◌, Bool, true, cond, ℕ, ◌+◌, ◌<◌, ltb}
use Rattle.std.proofs.Common.{sym, ap, ◌∙◌, subst, arith}
use Rattle.laws.specs.Below.{count_below}
use Rattle.laws_remaining.specs.Remaining.{old_below, count_here, count_rises, count_above, new_in_order, first_stay, old_there, old_new, old_first}
use Rattle.piece_edges.specs.Edges.{low_slot, high_slot, slots_small}
use Rattle.stored.specs.Layout.{none}
use Rattle.cuts_names.specs.Pieces.{low, high, Node, kid, piece_at}
use Rattle.cuts.specs.Sets.{Cuts, There, CutsWithin}
use Rattle.cuts.specs.Least.{there_within}
use Rattle.demands_words.specs.Words.{BaseMesh, named, ProperlyMarked, Numbering, VerticesNumbered, CutRecord, RecordsNumbered}
use Rattle.demands_taken_back.specs.Words.{SameOrder}
use Rattle.demands_taken_back.specs.Renumbered.{StillThere}
use Rattle.demands_taken_back.specs.Renumbered as Specs

module _ (b : BaseMesh) (marked : ProperlyMarked b) (C D : Cuts b.pieces) (inside : CutsWithin D C) (N : Numbering) (nv : VerticesNumbered b C N) (nr : RecordsNumbered b C N)
    (vertex_stays record_stays : ℕ → Bool) (still : StillThere b D N vertex_stays record_stays)
  where
    -- As specs/ has them.
    abbrev N' : Numbering
    N' = Specs.N' b marked C D inside N nv nr vertex_stays record_stays still

    abbrev new_vertex : ℕ → ℕ
    new_vertex = Specs.new_vertex b marked C D inside N nv nr vertex_stays record_stays still

    abbrev old_record : ℕ → ℕ
    old_record = Specs.old_record b marked C D inside N nv nr vertex_stays record_stays still

    abbrev new_record : ℕ → ℕ
    new_record = Specs.new_record b marked C D inside N nv nr vertex_stays record_stays still

    abbrev corners_stay : (r : ℕ) → r < N.records → record_stays r ≡ true → (j : ℕ) → j < 4 → vertex_stays (N.corner_at r j) ≡ true
    corners_stay = Specs.corners_stay b marked C D inside N nv nr vertex_stays record_stays still

    -- Base records stay.
    base_record_stays : (r : ℕ) → r < b.pieces → record_stays r ≡ true
    base_record_stays r h = (still.records r (omega (arith, h, nr.base_first))).1 (subst (There D) (sym (nr.base_node r h)) h)

    module _ (k : ℕ) (h : k < N'.records) where
      -- As specs/ has them.
      abbrev r : ℕ
      r = Specs.r b marked C D inside N nv nr vertex_stays record_stays still k h

      abbrev older : (r < N.records) × (record_stays r ≡ true) × (new_record r ≡ k)
      older = Specs.older b marked C D inside N nv nr vertex_stays record_stays still k h

      -- The ends of its refinement edge have numbers in the same order as before.
      ends_in_order : let e = (piece_at (named b) (N.node_at r)).shape.edge in
          ltb (new_vertex (N.corner_at r (low_slot e))) (new_vertex (N.corner_at r (high_slot e))) ≡ ltb (N.corner_at r (low_slot e)) (N.corner_at r (high_slot e))
      ends_in_order =
          let e = (piece_at (named b) (N.node_at r)).shape.edge in
          let ends = slots_small e in
          let (below, stays, new) = older in
          new_in_order vertex_stays (N.corner_at r (low_slot e)) (N.corner_at r (high_slot e)) (corners_stay r below stays (low_slot e) ends.0) (corners_stay r below stays (high_slot e) ends.1)

      cut_record_lem : D.has (N'.node_at k) ≡ true → CutRecord b N' k
      cut_record_lem t =
          let (below, stays, new) = older in
          let c = nr.cut r below (inside (N.node_at r) t) in
          let f = N.first_at r in
          let next_below : f + 1 < N.records = c.there in
          let first_stays : record_stays f ≡ true = (still.records f (omega arith)).1 (subst (There D) (sym c.first) t) in
          let next_stays : record_stays (f + 1) ≡ true = (still.records (f + 1) next_below).1 (subst (There D) (sym c.second) t) in
          let is : N'.first_at k ≡ new_record f = ap (λ (x : Bool). cond x (new_record f) none) t in
          let next : new_record f + 1 ≡ new_record (f + 1) = sym (count_here record_stays f first_stays) in
          record {
            above = omega (arith, is, new, count_above record_stays r f c.above stays);
            there = omega (arith, is, next, count_above record_stays (f + 1) N.records next_below next_stays);
            first =
                ap (λ (i : ℕ). N.node_at (old_record i)) is ∙ ap N.node_at (old_new record_stays N.records f (omega arith) first_stays) ∙ c.first
                ∙ ap (λ (x : Bool). kid (N.node_at r) (cond x high low)) (sym ends_in_order);
            second =
                ap (λ (i : ℕ). N.node_at (old_record (i + 1))) is ∙ ap (λ (i : ℕ). N.node_at (old_record i)) next
                ∙ ap N.node_at (old_new record_stays N.records (f + 1) next_below next_stays) ∙ c.second
                ∙ ap (λ (x : Bool). kid (N.node_at r) (cond x low high)) (sym ends_in_order);
          }

    pub records_renumbered : RecordsNumbered b D N'
    records_renumbered =
        record {
          base_first = omega (arith, first_stay record_stays b.pieces base_record_stays b.pieces (omega arith), count_rises record_stays b.pieces N.records nr.base_first);
          base_node = λ r h. ap N.node_at (old_first record_stays N.records b.pieces nr.base_first base_record_stays r h) ∙ nr.base_node r h;
          there = λ k h. let (below, stays, new) = old_there record_stays N.records k h in (still.records (old_record k) below).0 stays;
          every = every;
          once = once;
          corner_there = λ k h j l.
              let (below, stays, new) = old_there record_stays N.records k h in
              count_above vertex_stays (N.corner_at (old_record k) j) N.vertices (nr.corner_there (old_record k) below j l) (corners_stay (old_record k) below stays j l);
          corner = λ k h j l.
              let (below, stays, new) = old_there record_stays N.records k h in
              ap N.name_at (old_new vertex_stays N.vertices (N.corner_at (old_record k) j) (nr.corner_there (old_record k) below j l) (corners_stay (old_record k) below stays j l))
              ∙ nr.corner (old_record k) below j l;
          uncut = λ k h u. ap (λ (x : Bool). cond x (new_record (N.first_at (old_record k))) none) u;
          cut = cut_record_lem;
        }
      where
        every : (n : Node) → There D n → (k : ℕ) × (k < N'.records) × (N'.node_at k ≡ n)
        every n t =
            let (r, h, e) = nr.every n (there_within D C inside n t) in
            let stays = (still.records r h).1 (subst (There D) (sym e) t) in
            (new_record r, count_above record_stays r N.records h stays, ap N.node_at (old_new record_stays N.records r h stays) ∙ e)

        once : (j k : ℕ) → j < N'.records → k < N'.records → N'.node_at j ≡ N'.node_at k → j ≡ k
        once j k hj hk e =
            let (bj, sj, nj) = old_there record_stays N.records j hj in
            let (bk, sk, nk) = old_there record_stays N.records k hk in
            sym nj ∙ ap new_record (nr.once (old_record j) (old_record k) bj bk e) ∙ nk

    -- ---- the order

    -- What remains keeps its order.
    pub renumbered_in_order : SameOrder N N'
    renumbered_in_order =
        record {
          vertices = λ u v u' v' hu hv hu' hv' eu ev l. ordered vertex_stays N.vertices N.name_at nv.once u v u' v' hu hv hu' hv' eu ev l;
          records = λ q r q' r' hq hr hq' hr' eq er l. ordered record_stays N.records N.node_at nr.once q r q' r' hq hr hq' hr' eq er l;
        }
      where
        ordered : {A : Type 0} (stays : ℕ → Bool) (n : ℕ) (at : ℕ → A) → ((i j : ℕ) → i < n → j < n → at i ≡ at j → i ≡ j) → (i j i' j' : ℕ) → i < n → j < n → i' < count_below n stays → j' < count_below n stays →
            at i ≡ at (old_below n stays i') → at j ≡ at (old_below n stays j') → i < j → i' < j'
        ordered stays n at once i j i' j' hi hj hi' hj' ei ej l =
            let (bi, si, ni) = old_there stays n i' hi' in
            let (bj, sj, nj) = old_there stays n j' hj' in
            let same_i = once i (old_below n stays i') hi bi ei in
            let same_j = once j (old_below n stays j') hj bj ej in
            omega (arith, ni, nj, count_above stays (old_below n stays i') (old_below n stays j') (omega arith) si)
