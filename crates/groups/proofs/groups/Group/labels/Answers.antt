-- `Group::labels` meets its contract: the first ones of the array are the labels.
-- Assumes nothing.
use Rattle.std.proofs.Common.{arith}
use Rattle.std.proofs.lemmas.List.{length-take-le}
use Rattle.groups.proofs.LabelLists.{labels_held}
use Rattle.groups.proofs.groups.Group.labels.Goals as goal

pub returns : goal.returns
returns c = (length-take-le c.args.self.now.count c.args.self.now.dims (omega arith), labels_held c.args.self.now (omega arith))
