-- A smaller set of a right set is right, where no edge of it hangs.
use Rattle.std.proofs.Common.{arith}
use Rattle.stored.specs.declared.Limits.{Limits}
use Rattle.cuts_names.specs.Lists.{passing}
use Rattle.cuts.specs.Sets.{Cuts, CutsWithin, NoneHangs}
use Rattle.cuts.specs.Least.{there_within}
use Rattle.cuts.specs.Count.{made_of, made_listed_lem, cuts_fewer_lem, made_fewer_lem}
use Rattle.cuts_coarser.specs.Remaining.{remaining_listed}
use Rattle.demands_words.specs.Words.{BaseMesh, named, Fits, Shallow, RightSet}

module _ (b : BaseMesh) (C D : Cuts b.pieces) (inside : CutsWithin D C) where
  -- It fits whatever limits the larger one fits.
  pub smaller_fits : (most : Limits) → Fits most b C → Fits most b D
  smaller_fits most fits =
      let cuts = passing D.has fits.cuts in
      let listed = remaining_listed C D inside fits.cuts fits.cuts_listed_lem in
      let made = made_listed_lem (named b) D cuts listed in
      record {
        cuts = cuts;
        cuts_listed_lem = listed;
        made = made_of (named b) cuts;
        made_listed_lem = made;
        vertices = omega (arith, fits.vertices, made_fewer_lem D C inside (named b) (made_of (named b) cuts) fits.made made fits.made_listed_lem);
        base_records_lem = fits.base_records_lem;
        records = omega (arith, fits.records, cuts_fewer_lem D C inside cuts fits.cuts listed fits.cuts_listed_lem);
      }

  -- It goes no deeper.
  pub smaller_shallow : Shallow b C → Shallow b D
  smaller_shallow shallow n t = shallow n (there_within D C inside n t)

  pub smaller_right : (most : Limits) → RightSet most b C → NoneHangs (named b) D → RightSet most b D
  smaller_right most right rests = record { marked = right.marked; none_hangs = rests; fits = smaller_fits most right.fits; shallow = smaller_shallow right.shallow }
