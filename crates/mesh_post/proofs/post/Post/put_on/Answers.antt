use Rattle.std.proofs.Common.{◌≡◌, length, None}
use Rattle.mesh_model.specs.Net.Mesh.{LanPut}
use Rattle.mesh_post.specs.Sent.{passed_more}
use Rattle.mesh_post.proofs.ActLemmas.{came_told}
use Rattle.mesh_post.proofs.Before.{as_before}
use Rattle.mesh_post.proofs.post.Post.put_on.Goals as goal

pub returns-in-Ok-clause-put : goal.returns-in-Ok-clause-put
returns-in-Ok-clause-put c = λ queries older last ticks mesh step late soon.
    let put : LanPut = record { lan = c.args.putting.lan; moment = c.args.putting.now; bytes = c.args.bytes; by = c.args.putting.by } in
    let none : passed_more c.args.self.now 1 (length c.args.bytes) ≡ None = rw (c.len.ensures.value) at c.in_ok-check_room.ensures.within in
    let k = step.amid.stands.bytes in
    let small = step.amid.stands.small in
    came_told queries c.args.self.now c.carry_put.new.self put older last ticks mesh c.args.log.now c.carry_put.new.log step late soon none (c.in-Ok.ensures.carries) (c.in-Ok.ensures.told)

pub returns-in-Err-clause-refused : goal.returns-in-Err-clause-refused
returns-in-Err-clause-refused c = as_before c.mark-mark.result c.args.self.now c.carry_put.new.self c.take_back.new.self c.mark-mark.ensures c.carry_put.ensures.enters c.take_back.ensures
