use Rattle.std.proofs.Common.{◌≡◌, ◌++◌, ◌∷◌, [], ◌∙◌, IsSome, ap, length, refl, subst, sym}
use Rattle.mesh_model.specs.declared.packet.Head.{Head}
use Rattle.mesh_model.specs.declared.packet.Head.TheVariants.{Unicast}
use Rattle.mesh_model.specs.Fragments.Cutting.{reach_of}
use Rattle.mesh_model.specs.Packets.Layout.{spelling}
use Rattle.mesh_codec.proofs.Written.{read_alone}
use Rattle.mesh_frag.proofs.CutLemmas.{decoded}
use Rattle.mesh_frag_tests.proofs.packets.packet_of.Goals as goal

pub returns-clause-unicast : goal.returns-clause-unicast
returns-clause-unicast c =
    let head : Head = Unicast 50 1 (record { 0 = 2 ∷ 0 ∷ 0 ∷ 0 ∷ 0 ∷ 11 ∷ [] }) in
    let tail = c.deref.result.now in
    let spelled : c.encode.new.out.items ≡ spelling head tail = c.in_ok-encode.ensures.ok ∙ ap (λ front. front ++ spelling head tail) c.new-packet.ensures.items in
    subst (λ bytes. IsSome (reach_of bytes)) (sym spelled)
    (subst IsSome (decoded (spelling head tail) head tail (length (spelling head tail)) (read_alone head tail c.in_ok-encode.ensures.written)) refl)
