use Rattle.std.proofs.Common.{rules, ◌≡◌, None, Some, length, option_map, slice_get, sym, ap, ◌∙◌, arith}
use Rattle.std.proofs.lemmas.Option.{slice_get_past}
use Rattle.mesh_post.specs.Posting.{posted_at}
use Rattle.mesh_post.proofs.FrameLemmas.{all_get}
use Rattle.mesh_post.proofs.LookUps.{got}
use Rattle.mesh_post.proofs.frames.Frames.get.Goals as goal

pub returns-in_err-word : goal.returns-in_err-word
returns-in_err-word c =
    let i = c.self.inside in
    let high = c.in_err-word.ensures.lookup.3 in
    let same = ap length c.deref.ensures.value in
    let past : slice_get i.words.items c.args.place ≡ None = slice_get_past i.words.items c.args.place (omega (arith, high, same)) in
    let none : c.from_residual.result ≡ None = search rules in
    none ∙ sym (ap (option_map (posted_at i.bases.items i.far c.args.place)) past)
    ∙ sym (all_get i.bases.items i.far i.words.items c.args.place) ∙ ap (λ l. slice_get l c.args.place) c.self.view_is

pub returns : goal.returns
returns c =
    let i = c.self.inside in
    let k = c.in_ok-word.ensures.lookup in
    let found : slice_get i.words.items c.args.place ≡ Some c.in_ok-word.field-0.now = rw (← c.deref.ensures.value) (got c.deref.result.now c.args.place c.in_ok-word.field-0.now k.3.0 k.1) in
    let says = c.read.ensures ∙ ap (λ bases. posted_at bases i.far c.args.place c.in_ok-word.field-0.now) c.deref-2.ensures.value in
    ap Some says ∙ sym (ap (option_map (posted_at i.bases.items i.far c.args.place)) found)
    ∙ sym (all_get i.bases.items i.far i.words.items c.args.place) ∙ ap (λ l. slice_get l c.args.place) c.self.view_is
