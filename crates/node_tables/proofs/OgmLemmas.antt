-- What an originator message puts: the message that is sent on, and then a request.
use Rattle.mesh_model.specs.Packets.Numbers.{first_ttl}
use Rattle.std.proofs.Common.{◌≡◌, ℕ, Bool, true, false, List, [], refl, sym, ap, subst, ◌∙◌, Option, Some, Result, Ok}
use Rattle.std.specs.Prelude.{if◌then◌else◌}
use Rattle.mesh_base.specs.declared.address.Mac.{Mac}
use Rattle.mesh_model.specs.declared.act.Act.{Act}
use Rattle.mesh_model.specs.declared.ending.LimitName.{LimitName}
use Rattle.mesh_model.specs.declared.packet.Head.{Head}
use Rattle.mesh_model.specs.declared.packet.Head.TheVariants.{Utvlv}
use Rattle.mesh_model.specs.declared.table_outcome.Request.{Request}
use Rattle.mesh_model.specs.declared.route.Hearing.{Hearing}
use Rattle.mesh_model.specs.Acts.Packing.{request_containers, sent_over}
use Rattle.mesh_model.specs.Acts.Rows.{accepted_acts, message_acts, ogm_acts}
use Rattle.mesh_model.specs.Acts.TableRows.{request_acts}
use Rattle.mesh_model.specs.Knowledge.Known.{Knowledge}
use Rattle.mesh_model.specs.Knowledge.Steps.{Coming, request_out, with_head, with_life}
use Rattle.mesh_model.specs.Knowledge.Told.{Message, stamp_told}
use Rattle.mesh_model.specs.Routes.Queries.{Queries}
use Rattle.node_ground.specs.declared.failure.NodeErr.{NodeErr}
use Rattle.node_ground.specs.Puts.{TakesAll, StopsAt, Puts}
use Rattle.node_ground.proofs.PutsLemmas.{puts_behind, stops_among}

-- the request after a message that is accepted, where it was heard so
abbrev acts_by : Queries → Mac → Coming → Head → Message → Knowledge → Hearing → List Act
acts_by q me came head message known hearing =
    let begun : Knowledge = with_life message.orig hearing.began (with_head came head known) in
    request_acts me (q.route begun.routes came.now message.orig) message (request_out q begun came.now message)

module _ {P : Type 0} (takes : P → Act → P → Type 0) (same : P → P → Type 0) (over : P → Act → Option LimitName) where
  -- a request that goes out is put as its containers
  pub request_put : (me : Mac) (next : Option Mac) (message : Message) (request : Request) (out : Option Request) (containers : List ℕ) (old new : P) (result : Result Unit NodeErr)
      → Some request ≡ out → containers ≡ request_containers request (stamp_told message.table)
      → Puts takes same over old (sent_over next (Utvlv first_ttl message.orig me) containers) result new
      → Puts takes same over old (request_acts me next message out) result new
  request_put me next message request out containers old new result is bytes puts =
      subst (λ o. Puts takes same over old (request_acts me next message o) result new) is
      (subst (λ b. Puts takes same over old (sent_over next (Utvlv first_ttl message.orig me) b) result new) bytes puts)

  -- it stops at the message that is sent on
  pub ogm_stops : (q : Queries) (me : Mac) (came : Coming) (head : Head) (message : Message) (tail : List ℕ) (known : Knowledge) (hearing : Hearing) (error : NodeErr) (old new : P)
      → hearing ≡ q.hear known.routes came.now came.from came.throughput head
      → StopsAt takes same over error old (message_acts hearing.forward tail) new
      → StopsAt takes same over error old (ogm_acts q me came head message tail known) new
  unfolding ogm_acts
  ogm_stops q me came head message tail known hearing error old new is stop =
      stops_among takes same over error old new _ _ (subst (λ (h : Hearing). StopsAt takes same over error old (message_acts h.forward tail) new) is stop)

  -- the request is put behind it
  pub ogm_puts : (q : Queries) (me : Mac) (came : Coming) (head : Head) (message : Message) (tail : List ℕ) (known : Knowledge) (hearing : Hearing) (old mid new : P) (result : Result Unit NodeErr)
      → hearing ≡ q.hear known.routes came.now came.from came.throughput head → hearing.accepted ≡ true
      → TakesAll takes over old (message_acts hearing.forward tail) mid
      → Puts takes same over mid (acts_by q me came head message known hearing) result new
      → Puts takes same over old (ogm_acts q me came head message tail known) result new
  unfolding ogm_acts
  ogm_puts q me came head message tail known hearing old mid new result is accepted all puts =
      puts_behind takes same over old mid new (message_acts (q.hear known.routes came.now came.from came.throughput head).forward tail)
      (if (q.hear known.routes came.now came.from came.throughput head).accepted then accepted_acts q me came head message known else []) result
      (subst (λ (h : Hearing). TakesAll takes over old (message_acts h.forward tail) mid) is all)
      (subst (λ (b : Bool). Puts takes same over mid (if b then accepted_acts q me came head message known else []) result new)
      (sym accepted ∙ ap (λ (h : Hearing). h.accepted) is)
      (subst (λ (h : Hearing). Puts takes same over mid (acts_by q me came head message known h) result new) is puts))

  -- nothing is put behind it where it isn't accepted
  pub ogm_only : (q : Queries) (me : Mac) (came : Coming) (head : Head) (message : Message) (tail : List ℕ) (known : Knowledge) (hearing : Hearing) (old new : P)
      → hearing ≡ q.hear known.routes came.now came.from came.throughput head → hearing.accepted ≡ false
      → TakesAll takes over old (message_acts hearing.forward tail) new
      → TakesAll takes over old (ogm_acts q me came head message tail known) new
  unfolding ogm_acts
  ogm_only q me came head message tail known hearing old new is accepted all =
      puts_behind takes same over old new new (message_acts (q.hear known.routes came.now came.from came.throughput head).forward tail)
      (if (q.hear known.routes came.now came.from came.throughput head).accepted then accepted_acts q me came head message known else []) (Ok tt)
      (subst (λ (h : Hearing). TakesAll takes over old (message_acts h.forward tail) new) is all)
      (subst (λ (b : Bool). TakesAll takes over new (if b then accepted_acts q me came head message known else []) new)
      (sym accepted ∙ ap (λ (h : Hearing). h.accepted) is) refl)
