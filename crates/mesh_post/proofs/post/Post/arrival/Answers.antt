use Rattle.std.proofs.Common.{rules, ◌≡◌, refl, sym, ap, ◌∙◌, subst, slice_get, None, Some}
use Rattle.std.proofs.lemmas.Option.{none-some}
use Rattle.mesh_post.specs.Kept.{FrameIs, RowIs}
use Rattle.mesh_post.specs.Inner.Links.{back_over}
use Rattle.mesh_post.proofs.Back.{back_is, frame_there, no_frame}
use Rattle.mesh_post.proofs.LookUps.{some_none, some_one}
use Rattle.mesh_post.proofs.post.Post.arrival.Goals as goal

pub returns-in_err-frame-clause-some : goal.returns-in_err-frame-clause-some
returns-in_err-frame-clause-some c = λ sendings mesh frame link stands found on.
    let f = frame_there sendings mesh.frames c.args.self.now.frames c.args.place frame stands.frames found in
    let gone : slice_get c.args.self.now.frames c.args.place ≡ None = search rules in
    absurd (some_none f.0 (sym f.1 ∙ gone))

pub returns-in_err-row-clause-some : goal.returns-in_err-row-clause-some
returns-in_err-row-clause-some c = λ sendings mesh frame link stands found on.
    let f = frame_there sendings mesh.frames c.args.self.now.frames c.args.place frame stands.frames found in
    let kept : slice_get c.args.self.now.frames c.args.place ≡ Some c.in_ok-frame.frame = search rules in
    let is : FrameIs sendings frame c.in_ok-frame.frame = subst (FrameIs sendings frame) (some_one _ _ (sym f.1 ∙ kept)) f.2 in
    let h = stands.rows.each frame.link link on in
    absurd (none-some h.row (c.in_err-row.ensures ∙ ap (slice_get c.args.self.now.rows) is.link ∙ h.found))

pub returns-clause-some : goal.returns-clause-some
returns-clause-some c = λ sendings mesh frame link stands found on.
    let f = frame_there sendings mesh.frames c.args.self.now.frames c.args.place frame stands.frames found in
    let kept : slice_get c.args.self.now.frames c.args.place ≡ Some c.in_ok-frame.frame = search rules in
    let is : FrameIs sendings frame c.in_ok-frame.frame = subst (FrameIs sendings frame) (some_one _ _ (sym f.1 ∙ kept)) f.2 in
    let h = stands.rows.each frame.link link on in
    let row_is : h.row ≡ c.in_ok-row.row.now = some_one _ _ (sym h.found ∙ ap (slice_get c.args.self.now.rows) (sym is.link) ∙ sym c.in_ok-row.ensures) in
    let row : RowIs mesh.nodes link c.in_ok-row.row.now = subst (RowIs mesh.nodes link) row_is h.is in (
      _,
      refl,
      record {
        to = row.to;
        from = row.start;
        throughput = c.back.ensures ∙ ap (back_over c.args.self.now.rows) is.link ∙ back_is mesh.nodes mesh.links c.args.self.now.rows frame.link link stands.rows on;
        sending = is.sending;
        found = is.found;
        bytes = is.bytes;
        root = is.root;
      },
    )

pub returns-clause-none : goal.returns-clause-none
returns-clause-none c = λ sendings mesh stands none.
    let kept : slice_get c.args.self.now.frames c.args.place ≡ Some c.in_ok-frame.frame = search rules in
    absurd (no_frame sendings mesh.frames c.args.self.now.frames c.args.place c.in_ok-frame.frame stands.frames none kept)
