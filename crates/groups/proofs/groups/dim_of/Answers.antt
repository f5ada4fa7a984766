-- `dim_of` meets its contract: the extent is that of all axes together, and each stride is what its address word reads as.
-- Assumes nothing.
use Rattle.groups.proofs.LabelLists.{as_label_lem}
use Rattle.groups.proofs.groups.dim_of.Goals as goal

pub returns : goal.returns
returns c =
    rw (c.extent.ensures, c.stride_of-in_d.ensures, c.stride_of.ensures, c.stride_of-2.ensures, c.stride_in_c.ensures)
    (as_label_lem c.args.x.now c.args.c)
