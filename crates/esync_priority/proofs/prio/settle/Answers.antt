use Rattle.std.proofs.Common.{◌<◌, Some, length, set, arith}
use Rattle.std.proofs.lemmas.List.Sorted.{IsPermutation-trans}
use Rattle.esync_priority.proofs.Counts.{few_levels}
use Rattle.esync_priority.proofs.prio.settle.Goals as goal

pub returns-clause-permutation : goal.returns-clause-permutation
returns-clause-permutation g c =
    let x = Some c.args.item in
    IsPermutation-trans (set c.args.row.now 0 x) (set c.sink-place.new.row c.sink-place.result x) c.rise.new.row (c.sink-place.ensures.moved.holds x) c.rise.ensures.permutation

pub returns-clause-few : goal.returns-clause-few
returns-clause-few g c =
    let start = c.args.comparisons.now in
    let bottom = c.sink-place.new.comparisons in
    let place = c.sink-place.result in
    let many = length c.args.row.now in
    let same = c.sink-place.ensures.moved.length_kept in
    let h = c.sink-place.ensures.inside in
    let inside : 0 < place → place < many = λ behind. omega arith in
    let down = few_levels start bottom place many inside c.sink-place.ensures.cost in
    let up = few_levels bottom c.rise.new.comparisons place many inside c.rise.ensures.cost in
    omega (arith, down, up)
