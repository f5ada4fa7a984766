-- `add_run` meets its contract: its words of B are those that the contract names, each the first one's with what it is further added.
-- Assumes nothing.
use Rattle.four_sums.proofs.four_sums.add_run.Goals as goal

pub add_to_four-requires : goal.add_to_four-requires
add_to_four-requires c =
    let p = c.requires in (
      p.0,
      p.1,
      p.2,
      rw (c.of-j.ensures, c.of.ensures, c.of-2.ensures, c.of-3.ensures) p.3,
    )
