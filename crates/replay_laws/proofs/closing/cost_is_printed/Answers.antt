use Rattle.replay_laws.proofs.PrintedCosts
use Rattle.replay_laws.proofs.Told.{least_is_small}
use Rattle.replay_laws.proofs.closing.cost_is_printed.Goals as goal

pub returns : goal.returns
returns c = λ g fits.
    PrintedCosts.cost_is_printed g (record {
      sound = fits;
      run = c.run_is_history.ensures;
      diagnosed = c.history_is_diagnosed.ensures;
      nothing = c.nothing_costs_nothing.ensures;
      one = c.one_least_cost.ensures;
      small = λ h history. least_is_small g h fits history c.history_is_radial.ensures c.problem_is_sound.ensures c.least_is_bounded.ensures;
    })
