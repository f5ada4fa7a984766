-- `stride_size` meets its contract: the word reads as the stride, whose two parts add up to its size.
-- Assumes nothing.
use mathlib.Core.Path.{◌≡◌, sym}
use Prim.Native.Nat.{◌+◌, ◌^◌, ◌<◌}
use native.Mathlib.Omega.{arith}
use Rattle.words.proofs.Whole.{size_parts}
use Rattle.layout.specs.Listed.{listed}
use Rattle.labels.specs.Labels.{stride_of}
use Rattle.labels.proofs.Facts.{small_stride, signed_stride}
use Rattle.entries.specs.EntryQuestions.{stride_size}
use Rattle.apart.proofs.apart.stride_size.Goals as goal

size : (c : goal.After-down) → c.before.up.result + c.down.result ≡ stride_size (listed c.before.before.before.args.x) c.before.before.before.args.c
size c =
    let s = stride_of c.args.c (listed c.args.x) in
    let reads = signed_stride c.args.x c.requires.few c.requires.strides c.args.c in
    rw (c.up.ensures, c.down.ensures, c.stride_of-word.ensures, reads) (sym (size_parts s))

small : (c : goal.After-down) → stride_size (listed c.before.before.before.args.x) c.before.before.before.args.c < 2 ^ 28
small c = small_stride c.args.x c.requires.few c.requires.strides c.args.c

pub returns : goal.returns
returns c = (size c, omega (arith, size c, small c))
