use Rattle.mesh_codec.proofs.Puts.{put_has_spelling, put_spelling}
use Rattle.mesh_codec.proofs.writing.encode_head.Goals as goal

pub returns-clause-ok : goal.returns-clause-ok
returns-clause-ok c tail is =
    let all = put_spelling c.reserve.new.self c.put_header.new.out c.args.head.now tail c.args.tail_len is c.put_header.ensures.parts in
    rw c.in_ok-reserve.ensures.items at all

pub returns-clause-written : goal.returns-clause-written
returns-clause-written c tail is =
    put_has_spelling c.reserve.new.self c.put_header.new.out c.args.head.now tail c.args.tail_len is c.put_header.ensures.parts (c.in_ok-check_tail.ensures.none tail is)
