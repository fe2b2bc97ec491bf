-- `analysis::halving::least` meets its contract. Assumes nothing.
use mathlib.Core.Path.{sym, subst}
use mathlib.Core.List.{List}
use Prim.Native.Nat.{ℕ}
use Rattle.analysis.specs.Common.Allowed.{Within}
use Rattle.analysis.specs.Common.ByRank.{FaultsOf}
use Rattle.analysis.proofs.Laws.Common.Choice.{own-allowed}
use Rattle.analysis.proofs.halving.least.Goals as goal

pub chosen-among-requires : goal.chosen-among-requires
chosen-among-requires c =
    record { good = c.requires; within = subst (λ (choice : List ℕ). Within c.args.table choice) (sym c.own_choice.ensures) (own-allowed c.args.table c.requires).each }

pub halved-requires : goal.halved-requires
halved-requires c =
    let among = c.chosen-among in
    record {
      good = c.requires;
      filled = among.ensures.filled;
      beside = subst (λ (choice : List ℕ). FaultsOf c.args.table choice among.result.faults.now) c.own_choice.ensures among.ensures.beside;
      framed = among.ensures.framed;
    }

pub returns : goal.returns
returns c = c.halved.ensures
