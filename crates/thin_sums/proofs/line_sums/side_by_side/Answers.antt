-- `side_by_side` meets its contract. The invariant: the sums are those of the first k depth counts.
use Rattle.std.proofs.Common.{◌≡◌, ℕ, ◌+◌, ◌*◌, ◌≤◌, List, get_or, replicate, refl, ◌∙◌, add-one, arith}
use Rattle.words.specs.Sums.{sum_to}
use Rattle.words.proofs.Loops.{each_ext}
use Rattle.limits.specs.Limits.{block_limit}
use Rattle.block.specs.Places.{place_of}
use Rattle.lanes.specs.LaneProducts.{products_added, spread}
use Rattle.kernel.proofs.Columns.{Summing, none_summed, one_more}
use Rattle.thin_sums.specs.LineSums.{line_sum, ByOnes}
use Rattle.thin_sums.proofs.LinePlaces.{place_by_ones, lane_inside}
use Rattle.thin_sums.proofs.line_sums.side_by_side.Goals as goal

-- the depth counts so far
none : (src starts offsets line : List ℕ) (n : ℕ) → n ≤ block_limit → Summing n (line_sum src starts offsets line 0) (replicate 64 0)
unfolding line_sum sum_to
none src starts offsets line n few = none_summed n few (line_sum src starts offsets line 0) (λ r. refl)

-- and one more: the words from its first place on, times the line's word
turn : (src starts offsets line : List ℕ) (n k : ℕ) {sums next : List ℕ} → n ≤ block_limit → ByOnes n offsets → Summing n (line_sum src starts offsets line k) sums
    → next ≡ products_added n (spread src (place_of (get_or starts k 0) offsets 0) 1 (get_or line k 0)) sums
    → Summing n (line_sum src starts offsets line (k + 1)) next
unfolding line_sum sum_to
turn src starts offsets line n k {sums} few b s e =
    one_more n few (line_sum src starts offsets line k) (line_sum src starts offsets line (k + 1)) (λ r. get_or src (place_of (get_or starts k 0) offsets r) 0 * get_or line k 0) s
    (e ∙ each_ext n (λ r h xs. rw (place_by_ones (get_or starts k 0) b r h)) sums)
    (λ r. rw add-one)

pub loop-k-init : goal.loop-k-init
loop-k-init c = let x = c.args.x.now in none x.src.now x.starts.now x.block.now.offsets c.args.line.now x.block.now.count c.requires.1.few

pub add_times-requires : goal.add_times-requires
add_times-requires c = (c.requires.1.some, c.requires.1.few, lane_inside c.requires.1 c.requires.0 c.loop-k.k (omega arith))

pub loop-k-preserved : goal.loop-k-preserved
loop-k-preserved c =
    let x = c.args.x.now in
    let l = c.loop-k in
    turn x.src.now x.starts.now x.block.now.offsets c.args.line.now x.block.now.count l.k c.requires.1.few c.requires.0 l.invariant c.add_times.ensures
