-- How a question is put: the pair that is learned from it first, then what is asked for.
use Rattle.std.proofs.Common.{◌≡◌, ℕ, Bool, true, List, [], ◌∷◌, length, Option, None, Result, refl, subst, sym}
use Rattle.std.specs.Prelude.{if◌then◌else◌}
use Rattle.mesh_base.specs.declared.address.Mac.{Mac}
use Rattle.mesh_base.specs.declared.client.Vid.{Vid}
use Rattle.mesh_base.specs.declared.event.ArpResult.TheVariants.{Off}
use Rattle.mesh_model.specs.declared.act.Act.{Act}
use Rattle.mesh_model.specs.declared.ending.LimitName.{LimitName}
use Rattle.mesh_model.specs.Acts.ArpRows.{arp_told, asked_acts, known_or_asked, learned_acts, message_of_client, pair_acts, question_acts, table_packets}
use Rattle.mesh_model.specs.Acts.BridgeRows.{Place}
use Rattle.mesh_model.specs.Knowledge.Known.{Knowledge}
use Rattle.mesh_model.specs.Knowledge.Pairs.{known_address, pair_keepers, with_learned}
use Rattle.mesh_model.specs.Packets.ArpMessages.{ArpMessage, arp_request}
use Rattle.mesh_model.specs.Packets.Numbers.{dht_get_subtype}
use Rattle.mesh_model.specs.Routes.Queries.{Queries}
use Rattle.node_ground.specs.declared.failure.NodeErr.{NodeErr}
use Rattle.node_ground.specs.Puts.{Puts, StopsAt, TakesAll}
use Rattle.node_ground.proofs.PutsLemmas.{puts_behind, stops_among}

module _ {P : Type 0} (takes : P → Act → P → Type 0) (same : P → P → Type 0) (over : P → Act → Option LimitName)
    (q : Queries) (known : Knowledge) (at : Place) (mac : Mac) (own_ip asked_ip : ℕ) (vid : Vid) where
  some_asked : (nodes : List Mac) (old new : P) (result : Result Unit NodeErr) → (length nodes ≡ 0 → ⊥)
      → Puts takes same over old (table_packets q known at dht_get_subtype (message_of_client arp_request mac own_ip asked_ip vid) nodes) result new
      → Puts takes same over old (asked_acts q known at mac own_ip asked_ip vid nodes) result new
  some_asked [] old new result some puts = absurd (some refl)
  some_asked (node ∷ rest) old new result some puts = puts

  -- a pair that isn't known is asked, by this message, of the nodes that keep it
  pub asked_puts : (nodes sent : List Mac) (message : ArpMessage) (old new : P) (result : Result Unit NodeErr) → known_address known at.now asked_ip vid ≡ None
      → nodes ≡ pair_keepers q at.me known at.now asked_ip vid → (length nodes ≡ 0 → ⊥) → sent ≡ nodes → message ≡ message_of_client arp_request mac own_ip asked_ip vid
      → Puts takes same over old (table_packets q known at dht_get_subtype message sent) result new
      → Puts takes same over old (known_or_asked q known at mac own_ip asked_ip vid (known_address known at.now asked_ip vid)) result new
  asked_puts nodes sent message old new result unknown are some to_nodes of_client puts =
      let Sends : ArpMessage → List Mac → Type 0 = λ m ns. Puts takes same over old (table_packets q known at dht_get_subtype m ns) result new in
      subst (λ found. Puts takes same over old (known_or_asked q known at mac own_ip asked_ip vid found) result new) (sym unknown)
      (subst (λ ns. Puts takes same over old (asked_acts q known at mac own_ip asked_ip vid ns) result new) are
      (some_asked nodes old new result some (subst (λ m. Sends m nodes) of_client (subst (Sends message) to_nodes puts))))

  -- what is known with the pair that is learned from the question
  abbrev learned : Knowledge
  learned = with_learned at.now own_ip vid mac known

  -- what is put first, and then
  abbrev first_acts : List Act
  first_acts = pair_acts q learned at mac own_ip vid

  abbrev then_acts : List Act
  then_acts = known_or_asked q learned at mac own_ip asked_ip vid (known_address learned at.now asked_ip vid)

  -- a node that takes part puts both
  pub question_stops : (error : NodeErr) (old new : P) → known.services.settings.arp_table ≡ true → StopsAt takes same over error old first_acts new
      → StopsAt takes same over error old (question_acts q known at mac own_ip asked_ip vid) new
  unfolding question_acts
  question_stops error old new on stop =
      subst (λ (b : Bool). StopsAt takes same over error old (if b then learned_acts q learned at mac own_ip asked_ip vid else arp_told at asked_ip Off) new) (sym on)
      (stops_among takes same over error old new first_acts then_acts stop)

  pub question_puts : (old mid new : P) (result : Result Unit NodeErr) → known.services.settings.arp_table ≡ true → TakesAll takes over old first_acts mid
      → Puts takes same over mid then_acts result new → Puts takes same over old (question_acts q known at mac own_ip asked_ip vid) result new
  unfolding question_acts
  question_puts old mid new result on all puts =
      subst (λ (b : Bool). Puts takes same over old (if b then learned_acts q learned at mac own_ip asked_ip vid else arp_told at asked_ip Off) result new) (sym on)
      (puts_behind takes same over old mid new first_acts then_acts result all puts)
