use Rattle.std.proofs.Common.{◌≡◌, ◌<◌, ◌≤◌, Some, length, get_or, rules, arith}
use Rattle.std.specs.Prelude.{slice_get}
use Rattle.std.proofs.lemmas.Option.{slice_get-get_or, slice_get_past}
use Rattle.esync_machine.proofs.Serve.{finds_any, fits_at, served_nowhere, served_number}
use Rattle.esync_machine.proofs.requests.serve_number.Goals as goal

pub serve_at-requires : goal.serve_at-requires
serve_at-requires g c =
    let q = c.args.places.now in
    let below : c.args.r < length q = omega arith in
    let there : slice_get q c.args.r ≡ Some (get_or q c.args.r c.index-places-r.result) = slice_get-get_or q c.args.r c.index-places-r.result below in
    (search rules, (c.requires.empty, (c.requires.room, (finds_any _ c.args.r _ c.requires.number, fits_at g.P.Primitive.rules g.P.Primitive.core g.P.Primitive.wakings g.P.Primitive.registrations g.P.Primitive.Fits g.P.Primitive.Apart g.P.Primitive.Owes g.P.Waker.PartialEq.eq c.args.state.now q c.args.r _ c.requires.tied there))))

pub returns-then-r-places : goal.returns-then-r-places
returns-then-r-places g c =
    let q = c.args.places.now in
    let past : length q ≤ c.args.r = omega arith in
    rw c.requires.empty (served_nowhere g.P.Primitive.rules g.P.Primitive.core g.P.Primitive.wakings g.P.Primitive.registrations g.P.Primitive.Fits g.P.Primitive.Apart g.P.Primitive.Owes g.P.Waker.PartialEq.eq c.args.state.now q c.args.command c.args.r c.requires.tied c.requires.number (slice_get_past q c.args.r past))

pub returns : goal.returns
returns g c =
    let q = c.args.places.now in
    let below : c.args.r < length q = omega arith in
    let there : slice_get q c.args.r ≡ Some (get_or q c.args.r c.index-places-r.result) = slice_get-get_or q c.args.r c.index-places-r.result below in
    served_number g.P.Primitive.rules g.P.Primitive.core g.P.Primitive.wakings g.P.Primitive.registrations g.P.Primitive.Fits g.P.Primitive.Apart g.P.Primitive.Owes g.P.Waker.PartialEq.eq g.met.P.Primitive.symmetric c.args.state.now c.serve_at.new.state q c.args.command c.serve_at.result c.serve_at.new.wakes c.requires.tied c.args.r _ c.serve_at.new.place c.requires.number there c.serve_at.ensures
