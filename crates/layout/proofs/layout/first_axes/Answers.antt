-- `first_axes` meets its contract: the closure makes the axis at each place.
-- Assumes nothing.
use Rattle.std.proofs.Common.{rules, get_or, pos}
use Rattle.words.proofs.Closures.{from_fn_tabulate}
use Rattle.layout.specs.Layout.{axes_of}
use Rattle.layout.proofs.layout.first_axes.Goals as goal

pub returns : goal.returns
unfolding axes_of
returns c =
    let a = c.args in
    from_fn_tabulate (λ i. record { letter = get_or a.letters.now i 0; extent = get_or a.extents.now i 0; stride = get_or a.strides.now i (pos 0) })
    c.from_fn.ensures.items (λ k y q h. search rules)
