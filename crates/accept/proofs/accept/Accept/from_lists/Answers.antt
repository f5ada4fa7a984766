-- `Accept::from_lists` meets its contract: the grid of the plan has counts in their limits.
-- Assumes nothing.
use Rattle.accept.proofs.accept.Accept.from_lists.Goals as goal

pub plan_of-plan-requires : goal.plan_of-plan-requires
plan_of-plan-requires c = (c.requires.ready, c.requires.foldable)

pub grid_of-grid-requires : goal.grid_of-grid-requires
grid_of-grid-requires c = c.requires.fits c.plan_of-plan.result c.plan_of-plan.ensures

pub returns : goal.returns
returns c = record { plan = c.plan_of-plan.ensures; grid = c.grid_of-grid.ensures }
