-- The set that refine reaches closes, and lies inside every set that closes. Assumes nothing.
use Rattle.std.specs.Prelude.{◌≡◌, false, List, ℕ, suc, ◌*◌, ◌≤◌, ◌<◌, length}
use Rattle.std.proofs.Common.{sym, ap, ◌∙◌}
use Rattle.stored.specs.Layout.{Stored, StoredSelection}
use Rattle.mesh_tables.specs.Tables as Check
use Rattle.refine_pass.specs.Passes.{exceeds, refined}
use Rattle.cuts_names.specs.Base.{SameFace, marked_at}
use Rattle.cuts_names.specs.Pieces.{Node, generation, piece_at}
use Rattle.cuts.specs.Sets.{Cuts, Leaf, CutsWithin}
use Rattle.cuts.specs.Depth.{there_rooted}
use Rattle.cuts.specs.Least.{reached_keeps, reached_least, reached_depth}
use Rattle.cuts.specs.Count.{CutList, LeafList, leaves_fewer_lem, cuts_bounded}
use Rattle.cuts.specs.Faces.{shared_face_one_mark}
use Rattle.demands_words.specs.Words.{BaseMesh, named, StoredMesh, GoodSelection, SelectedPiece, Closes}
use Rattle.demands_proofs.specs.PassStages as Stages
use Rattle.demands_proofs.specs.MarkedBase.{properly_marked}
use Rattle.demands_proofs.specs.FromStored as From

module _ (s : Stored) (x : StoredMesh s) (selection : StoredSelection) (good : GoodSelection x.job x.round x.base x.cuts x.stores.numbers selection) where
  abbrev b : BaseMesh
  b = x.base

  abbrev selected : Node → Type 0
  selected = SelectedPiece x.stores.numbers selection

  abbrev chosen : Node → Type 0
  chosen = Stages.ChosenNode (From.m s x) (From.chosen s x selection good)

  -- The tables after all passes, and the set that they represent.
  abbrev pub after : Check.Tables
  after = refined s.kind.limits (From.chosen s x selection good) (From.m s x)

  abbrev pub set : Cuts b.pieces
  set = (From.made s x selection good).set

  pub set_keeps : CutsWithin x.cuts set
  set_keeps = reached_keeps (named b) chosen (From.made s x selection good).reached

  pub set_inside : (X : Cuts b.pieces) → Closes b x.cuts selected X → CutsWithin set X
  set_inside X closes =
      reached_least (named b) chosen (From.made s x selection good).reached X closes.keeps
      (λ n c. closes.selected_cut n (From.chosen_selected s x selection good n c)) closes.none_hangs

  pub set_one_mark : (n m : Node) → Leaf set n → Leaf set m → (i j : ℕ) → i < 4 → j < 4 → SameFace (piece_at (named b) n) i (piece_at (named b) m) j →
      marked_at (piece_at (named b) n) i ≡ marked_at (piece_at (named b) m) j
  set_one_mark n m ln lm = shared_face_one_mark (properly_marked b x.right.marked) n m (there_rooted set n ln.there) (there_rooted set m lm.there)

  pub set_no_deeper : (k : ℕ) → ((n : Node) → Leaf x.cuts n → generation n ≤ 3 * k) → ((n : Node) → selected n → suc (generation n) ≤ 3 * k) → (n : Node) → Leaf set n → generation n ≤ 3 * k
  set_no_deeper k old new =
      let fits = x.right.fits in
      let (most, below) = cuts_bounded x.cuts fits.cuts fits.cuts_listed_lem in
      reached_depth (named b) chosen (From.made s x selection good).reached (properly_marked b x.right.marked) k most below old (λ n c. new n (From.chosen_selected s x selection good n c))

  -- Where the tables do not exceed their limits, the set closes.
  module _ (within : exceeds s.kind.limits after.header ≡ false) (cuts : List Node) (listed : CutList set cuts) where
    pub set_closes : Closes b x.cuts selected set
    set_closes =
        record {
          keeps = set_keeps;
          selected_cut = λ n c. let (k, e, q) = From.selected_chosen s x selection good n c in ap set.has (sym q) ∙ (From.made s x selection good).selected within k e;
          none_hangs = (From.made s x selection good).rests within;
          cuts = cuts;
          cuts_listed_lem = listed;
        }

  pub set_none_fewer : (cuts : List Node) → CutList set cuts → (X : Cuts b.pieces) → Closes b x.cuts selected X → (ours theirs : List Node) → LeafList set ours → LeafList X theirs → length ours ≤ length theirs
  set_none_fewer cuts listed X closes ours theirs p q = leaves_fewer_lem set X (set_inside X closes) cuts closes.cuts ours theirs listed closes.cuts_listed_lem p q
