-- Of specs/Ring.antt, the theorems that an edit of a definition breaks, and what only they need.
use Rattle.std.specs.Prelude.{◌≡◌, Bool, true, false, not, ◌&&◌}
use Rattle.std.proofs.Math.Path.{refl}
use Rattle.std.proofs.Common.{⊎_elim}
use Rattle.laws.specs.Below.{and_left, and_right, either, same_tests}
use Rattle.cuts_names.specs.Names.{Name, same_name, name_equality}
use Rattle.cuts_names.specs.Lists.{both_ways, among, any_of, any_of_where}
use Rattle.cuts_names.specs.Pieces.{low, makes, Node, kid, piece_at}
use Rattle.cuts.specs.Sets.{Cuts, CutsWithin, NoneHangs}
use Rattle.cuts.specs.Least.{same_node, node_equality}
use Rattle.cuts_faces.specs.Figure6.{none_fails}
use Rattle.cuts_coarser.specs.TakenAway.{Remains}
use Rattle.cuts_coarser.specs.Ring.{ring, rows, nine, all_nine, nine_cut_with}

-- ---- none of the nine can ever go

-- Some cut at x of the list has a child that is cut.
busy : Name → Bool
busy x = any_of (λ n. same_name (makes (piece_at ring n)) x && among same_node (kid n low) nine) nine

-- Each of the three midpoints has one.
all_busy : any_of (λ n. not (busy (makes (piece_at ring n)))) nine ≡ false
unfolding rows busy
all_busy = refl

-- From whatever set holds the nine, and whatever is named, the nine remain; so taking back again and again does not reach the base.
pub nine_remain : (C : Cuts 3) → CutsWithin all_nine C → (Named : Node → Type 0) (D : Cuts 3) → Remains ring C Named D → CutsWithin all_nine D
unfolding busy
nine_remain C inside Named D r n t =
    let cut = inside n t in
    let x = makes (piece_at ring n) in
    let (m, a, here) = any_of_where node_equality (λ n. same_name (makes (piece_at ring n)) x && among same_node (kid n low) nine) nine (none_fails (λ n. busy (makes (piece_at ring n))) nine all_busy n t) in
    let same : makes (piece_at ring m) ≡ x = name_equality.only (makes (piece_at ring m)) x (and_left (same_name (makes (piece_at ring m)) x) _ here) in
    let kid_cut : C.has (kid m low) ≡ true = inside (kid m low) (and_right (same_name (makes (piece_at ring m)) x) _ here) in
    ⊎_elim
    (λ u. u)
    (λ f. absurd (both_ways kid_cut (((r.gone n cut).0 f).leaf_children_lem m (record { is_cut_lem = inside m a; makes_it = same }) low).uncut))
    (either (D.has n))

-- So with just these nine cut nothing goes.
pub nothing_goes : (Named : Node → Type 0) (D : Cuts 3) → Remains ring all_nine Named D → (n : Node) → D.has n ≡ all_nine.has n
nothing_goes Named D r n = same_tests (D.has n) (all_nine.has n) (r.within n) (nine_remain all_nine (λ m t. t) Named D r n)

-- So once anything is cut, whatever is named, taking back leaves the nine cut: none of them can ever go.
pub never_the_base : (C : Cuts 3) → NoneHangs ring C → (n : Node) → C.has n ≡ true → (Named : Node → Type 0) (D : Cuts 3) → Remains ring C Named D → CutsWithin all_nine D
never_the_base C rests n t = nine_remain C (nine_cut_with C rests n t)
