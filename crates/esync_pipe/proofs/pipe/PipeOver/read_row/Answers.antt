use Rattle.std.proofs.Common.{◌≡◌, ◌≤◌, ℕ, List, ◌++◌, min, length, take, drop, ap, sym, ◌∙◌, arith}
use Rattle.std.proofs.Math.ListN.{replicate}
use Rattle.std.proofs.lemmas.Bool.Decides.{nat_tests}
use Rattle.std.proofs.lemmas.List.{length-take-le, length-append, length-replicate}
use Rattle.esync_pipe.specs.Pipe.{without}
use Rattle.esync_pipe.proofs.Kept.{not-empty, row-read}
use Rattle.esync_pipe.proofs.pipe.PipeOver.read_row.Goals as goal
use Rattle.esync_pipe.proofs.pipe.PipeOver.read_row.Goals.{then-count-held, else-count-held}

-- so many places of a row of l
row_of : (l places : ℕ) → places ≤ l → length (take places (replicate {A = ℕ} l 0)) ≡ places
row_of l places h = length-take-le places (replicate {A = ℕ} l 0) (let r = length-replicate {A = ℕ} l 0 in omega (arith, r, h))

pub slice_bounds-read-end : goal.slice_bounds-read-end
slice_bounds-read-end g c =
    let held : c.len-held.result ≤ g.R.ByteStore.capacity = c.len-held.ensures.within in
    let within : c.if-count-held.places ≤ g.row.L = elim c.if-count-held.branch [ then-count-held w ↦ omega (arith, w.if-count-held.true, w.places-is, held, c.requires.row) | else-count-held w ↦ omega (arith, w.places-is, held, c.requires.row) ] in
    sym (row_of g.row.L c.if-count-held.places within)

pub slice_bounds-from_slice-end : goal.slice_bounds-from_slice-end
slice_bounds-from_slice-end g c =
    let held : c.len-held.result ≤ g.R.ByteStore.capacity = c.len-held.ensures.within in
    let places = c.if-count-held.places in
    let within : places ≤ g.row.L = elim c.if-count-held.branch [ then-count-held w ↦ omega (arith, w.if-count-held.true, w.places-is, held, c.requires.row) | else-count-held w ↦ omega (arith, w.places-is, held, c.requires.row) ] in
    let l = row_of g.row.L places within in
    let rest : List ℕ = drop places (replicate g.row.L 0) in
    sym (length-take-le {A = ℕ} c.in-Ok.n (c.read.new.to ++ rest) (omega (arith, l, c.in-Ok.ensures.bytes.1, length-append {A = ℕ} c.read.new.to rest)))

pub returns-in-Ok-clause-bytes : goal.returns-in-Ok-clause-bytes
returns-in-Ok-clause-bytes g c =
    let ring = c.args.self.now.ring in
    let b = c.in-Ok.ensures.bytes in
    let places = c.if-count-held.places in
    let many : c.len-held.result ≡ length ring.items = c.len-held.ensures.value in
    let held : c.len-held.result ≤ g.R.ByteStore.capacity = c.len-held.ensures.within in
    let is : places ≡ min c.args.count (length ring.items) = elim c.if-count-held.branch [ then-count-held w ↦ grind (arith, nat_tests, many) | else-count-held w ↦ grind (arith, nat_tests, many) ] in
    let there : places ≤ length ring.items = grind (arith, nat_tests) in
    let within : places ≤ g.row.L = omega (arith, there, many, held, c.requires.row) in
    let l = row_of g.row.L places within in
    let n : c.in-Ok.n ≡ min c.args.count (length ring.items) = b.1 ∙ ap (λ m. min m (length ring.items)) l ∙ (let e : min places (length ring.items) ≡ places = grind (arith, nat_tests) in e) ∙ is in
    let small : c.in-Ok.n ≤ g.row.L = omega (arith, n, is, within) in
    let enough : c.in-Ok.n ≤ length ring.items = omega (arith, n, is, there) in (
      not-empty ring b.0,
      c.from_slice.ensures ∙ ap (λ t. take g.row.L (take c.in-Ok.n (t ++ drop places (replicate g.row.L 0)))) b.2 ∙ row-read ring.items (drop c.in-Ok.n (take places (replicate g.row.L 0))) (drop places (replicate g.row.L 0)) g.row.L c.in-Ok.n small enough ∙ ap (λ m. take m ring.items) n,
      b.3 ∙ ap (without g.R.ByteStore.capacity ring) n,
    )
