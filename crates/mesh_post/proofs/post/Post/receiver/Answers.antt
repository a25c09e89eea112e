use Rattle.std.proofs.Common.{◌≡◌, ◌∙◌, sym, slice_get, None, Some, rules}
use Rattle.mesh_post.proofs.Back.{receiver_none, receiver_off, receiver_row}
use Rattle.mesh_post.proofs.post.Post.receiver.Goals as goal

pub returns-in_err-frame : goal.returns-in_err-frame
returns-in_err-frame c = λ sendings mesh stands.
    let gone : slice_get c.args.self.now.frames c.args.place ≡ None = search rules in
    let none : c.from_residual.result ≡ None = search rules in
    none ∙ sym (receiver_none c.args.self.now sendings mesh c.args.place stands gone)

pub returns-in_err-row : goal.returns-in_err-row
returns-in_err-row c = λ sendings mesh stands.
    let found : slice_get c.args.self.now.frames c.args.place ≡ Some c.in_ok-frame.frame = search rules in
    let none : c.from_residual-in_err-row.result ≡ None = search rules in
    none ∙ sym (receiver_off c.args.self.now sendings mesh c.args.place stands c.in_ok-frame.frame found (sym c.in_err-row.ensures))

pub returns : goal.returns
returns c = λ sendings mesh stands.
    let found : slice_get c.args.self.now.frames c.args.place ≡ Some c.in_ok-frame.frame = search rules in
    sym (receiver_row c.args.self.now sendings mesh c.args.place stands c.in_ok-frame.frame c.in_ok-row.row.now found (sym c.in_ok-row.ensures))
