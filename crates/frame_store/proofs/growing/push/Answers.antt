-- What is written is one frame more.
use Rattle.std.proofs.Common.{◌+◌, length, rules}
use Rattle.frame_store.specs.Inner.{IsRoomier}
use Rattle.frame_store.proofs.StoreLemmas.{pushed, roomier, stays}
use Rattle.frame_store.proofs.growing.push.Goals as goal

pub returns-clause-stands : goal.returns-clause-stands
returns-clause-stands c =
    let room = record c.args.grown.now { index = c.reserve.new.self } in
    let more : IsRoomier c.args.grown.now room = search rules in
    let tail = roomier c.args.older.now c.args.grown.now room c.requires.tail more in
    stays c.args.older.now room c.write.new.grown _ c.args.bytes.now c.in_ok-place.place
    tail.0.store (rw tail.1 c.requires.within) c.in_ok-place.ensures.ok
    (search rules) (search rules) (search rules) (search rules) (search rules)

pub returns-clause-ok : goal.returns-clause-ok
returns-clause-ok c =
    let room = record c.args.grown.now { index = c.reserve.new.self } in
    let new = record c.write.new.grown {
      index = c.push_reserved.new.self;
      total = c.write.new.grown.total + length c.args.bytes.now;
    } in
    let more : IsRoomier c.args.grown.now room = search rules in
    let tail = roomier c.args.older.now c.args.grown.now room c.requires.tail more in
    rw (← tail.1) (pushed c.args.older.now room c.write.new.grown new c.args.bytes.now
    c.in_ok-place.place
    tail.0.store c.in_ok-place.ensures.ok (search rules) (search rules) (search rules))
