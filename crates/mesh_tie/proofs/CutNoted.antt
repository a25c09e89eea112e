-- Each packet that a node makes whole is one that it put together by its log: the parts that it knows are
-- those that it knew, behind those that came since.
use Rattle.std.proofs.Common.{◌≡◌, ◌∙◌, refl, sym, ap, ℕ, Bool, true, false, cond, List, [], ◌∷◌, ◌++◌, Option, Some, None, append_assoc}
use Rattle.std.proofs.lemmas.Option.{same_Some}
use Rattle.mesh_base.specs.declared.address.Mac.{Mac}
use Rattle.mesh_model.specs.declared.packet.Head.{Head}
use Rattle.mesh_model.specs.declared.packet.Head.TheVariants.{IvOgm, Bcast, Elp, Ogm2, Unicast, Frag, Unicast4, Icmp, Utvlv}
use Rattle.mesh_model.specs.Clients.Log.{Given}
use Rattle.mesh_model.specs.Fragments.Assembly.{PartCall, part_of}
use Rattle.mesh_model.specs.Knowledge.Known.{Knowledge}
use Rattle.mesh_model.specs.Knowledge.Pairs.{after_came}
use Rattle.mesh_model.specs.Knowledge.PutTogether.{after_part, fact_carried, put_together, with_part}
use Rattle.mesh_model.specs.Knowledge.Steps.{Coming, after_head, after_packet, after_packets, next_knowledge}
use Rattle.mesh_model.specs.Knowledge.Told.{Message, message_of}
use Rattle.mesh_model.specs.Packets.FirstPacket.{Packet}
use Rattle.mesh_model.specs.Routes.Addresses.{same_mac}
use Rattle.mesh_model.specs.Routes.Queries.{Queries}
use Rattle.mesh_laws.proofs.KeptLemmas.{HasCome, Kept, brings, head_comes, joins, leaves, stores}
use Rattle.mesh_laws.proofs.StoreLemmas.{Rest, message_rest}
use Rattle.mesh_tie.specs.CutPackets.{NotesWholes, part_for}
use Rattle.mesh_tie.specs.Tie.{known_at_node}
use Rattle.mesh_tie.proofs.CarriedSteps.{came_parts}

-- what is known after has the parts of before, behind more
record HasMore (known after : Knowledge) : Type 0 where
  later : List PartCall
  parts_are : after.parts ≡ later ++ known.parts

as_many : (known after : Knowledge) → after.parts ≡ known.parts → HasMore known after
as_many known after same = record { later = []; parts_are = same }

part_noted : (call : PartCall) (known : Knowledge) → (after_part call known).parts ≡ call ∷ known.parts
part_noted call known = ap (λ (r : Rest). r.parts) (message_rest call.moment (fact_carried (put_together call known.parts)) (with_part call known))

come_more : (now : ℕ) (head : Head) (tail : List ℕ) (known after : Knowledge) → HasCome now head tail known after → HasMore known after
come_more now head tail known _ (leaves after same) = as_many known after (ap (λ (k : Kept). k.parts) same)
come_more now head tail known _ (brings came) = go known.services.settings.arp_table
  where
    go : (b : Bool) → HasMore known (cond b (after_came now came known) known)
    go true = as_many known (after_came now came known) (came_parts now came known)
    go false = as_many known known refl
come_more now head tail known _ (stores told before payload uncut of same) =
    record { later = []; parts_are = ap (λ (r : Rest). r.parts) (message_rest now told before) ∙ ap (λ (k : Kept). k.parts) same }
come_more now head tail known _ (joins call payload is) = record { later = call ∷ []; parts_are = part_noted call known }

packets_more : (q : Queries) (me : Mac) (came : Coming) (known : Knowledge) (packets : List Packet) → HasMore known (after_packets q me came known packets)
packets_more q me came known [] = as_many known known refl
packets_more q me came known (packet ∷ rest) =
    let one = come_more came.now packet.head packet.tail known (after_packet q me came known packet) (head_comes q me came (message_of packet) packet.tail packet.head known) in
    let more = packets_more q me came (after_packet q me came known packet) rest in
    record { later = more.later ++ one.later; parts_are = more.parts_are ∙ ap (λ parts. more.later ++ parts) one.parts_are ∙ sym (append_assoc more.later one.later known.parts) }

packets_apart : (q : Queries) (me : Mac) (came : Coming) (known : Knowledge) (front back : List Packet) → after_packets q me came known (front ++ back) ≡ after_packets q me came (after_packets q me came known front) back
packets_apart q me came known [] back = refl
packets_apart q me came known (packet ∷ front) back = packets_apart q me came (after_packet q me came known packet) front back

-- a fragment for the node is noted
head_noted : (q : Queries) (me : Mac) (came : Coming) (message : Option Message) (tail : List ℕ) (head : Head) (known : Knowledge) (call : PartCall) → part_for me came.now tail head ≡ Some call → (after_head q me came message tail head known).parts ≡ call ∷ known.parts
head_noted q me came message tail (IvOgm ttl flags seq orig prev tq) known call is = cc
head_noted q me came message tail (Bcast ttl seq orig) known call is = cc
head_noted q me came message tail (Elp orig seq interval) known call is = cc
head_noted q me came message tail (Ogm2 ttl flags seq orig throughput) known call is = cc
head_noted q me came message tail (Unicast ttl ttvn dst) known call is = cc
head_noted q me came message tail (Frag ttl number priority dst orig seq total) known call is = go (same_mac dst me) is
  where
    part : PartCall
    part = part_of came.now orig seq total number tail

    go : (b : Bool) → cond b (Some part) None ≡ Some call → (cond b (after_part part known) known).parts ≡ call ∷ known.parts
    go true e = part_noted part known ∙ ap (λ (c : PartCall). c ∷ known.parts) (same_Some part call e)
    go false e = cc
head_noted q me came message tail (Unicast4 ttl ttvn dst src subtype) known call is = cc
head_noted q me came message tail (Icmp ttl msg dst orig uid seq) known call is = cc
head_noted q me came message tail (Utvlv ttl dst src) known call is = cc

pub notes_wholes : NotesWholes
notes_wholes queries node entry number from throughput bytes call packet given made =
    record {
      newer = [];
      log = entry ∷ node.log;
      log_is = refl;
      later = more.later;
      older = before.parts;
      parts_are = ap (λ (g : Given). (next_knowledge q node.mac node.log known entry.moment g).parts) given
          ∙ ap (λ ps. (after_packets q node.mac came known ps).parts) made.packets_are
          ∙ ap (λ (k : Knowledge). k.parts) (packets_apart q node.mac came known made.front (made.fragment ∷ made.back))
          ∙ more.parts_are
          ∙ ap (λ parts. more.later ++ parts) (head_noted q node.mac came (message_of made.fragment) made.fragment.tail made.fragment.head before call made.part_is);
      whole = made.whole;
    }
  where
    q : Queries
    q = queries node.mac

    known : Knowledge
    known = known_at_node queries node

    came : Coming
    came = record { now = entry.moment; from = from; throughput = throughput; number = number }

    before : Knowledge
    before = after_packets q node.mac came known made.front

    more : HasMore (after_packet q node.mac came before made.fragment) (after_packets q node.mac came (after_packet q node.mac came before made.fragment) made.back)
    more = packets_more q node.mac came (after_packet q node.mac came before made.fragment) made.back
