-- What a node learns of the ARP table, what it asks for, and what it keeps of the fact store leaves what
-- it knows of tables, and where it may send.
use Rattle.std.proofs.Common.{◌≡◌, ℕ, Bool, true, false, cond, Option, Some, None, refl, ap, sym, subst}
use Rattle.std.specs.List.{AllByRecursion}
use Rattle.mesh_base.specs.declared.address.Mac.{Mac}
use Rattle.mesh_base.specs.declared.client.Vid.{Vid}
use Rattle.mesh_model.specs.Knowledge.Known.{Knowledge}
use Rattle.mesh_model.specs.Knowledge.Pairs.{after_arp, after_asking, after_came, after_question, is_asked, with_ask, with_learned}
use Rattle.mesh_model.specs.Knowledge.Served.{Offered}
use Rattle.mesh_model.specs.Packets.ArpMessages.{ArpCame, Asks, Puts, Tells}
use Rattle.mesh_model.specs.Routes.Queries.{Queries}
use Rattle.mesh_model.specs.Services.ArpTable.{AskedFor, PairCall, ToldOf}
use Rattle.mesh_laws.proofs.StoreLemmas.{LeavesRest, Rest}
use Rattle.mesh_tie.specs.Sources.{IsWhole}
use Rattle.mesh_tie.specs.Tie.{HasWholeSource, HasWholeTarget, KnowsWhole}

-- what is known of tables is as it was, and addresses that a node may send to stay whole
pub record Leaves (before after : Knowledge) : Type 0 where
  pub tables : after.tables ≡ before.tables
  pub knows : KnowsWhole before → KnowsWhole after

nothing_leaves : (known : Knowledge) → Leaves known known
nothing_leaves known = record { tables = refl; knows = λ k. k }

leaves_if : (before : Knowledge) (b : Bool) (one other : Knowledge) → Leaves before one → Leaves before other → Leaves before (cond b one other)
leaves_if before true one other l m = l
leaves_if before false one other l m = m

-- what the fact store leaves
pub rest_leaves : (before after : Knowledge) → LeavesRest before after → Leaves before after
rest_leaves before after same = record {
  tables = ap (λ (r : Rest). r.tables) same;
  knows = λ k. record {
    tables = subst (λ (r : Rest). AllByRecursion HasWholeSource r.tables) (sym same) k.tables;
    marks = subst (λ (r : Rest). AllByRecursion HasWholeTarget r.marks) (sym same) k.marks;
    services = record {
      offers = subst (λ (r : Rest). AllByRecursion (λ (one : Offered). IsWhole one.orig) r.offers) (sym same) k.services.offers;
      choice = subst (λ (r : Rest). (gateway : Mac) → r.choice ≡ Some gateway → IsWhole gateway) (sym same) k.services.choice;
    };
  };
}

learned_leaves : (now ip : ℕ) (vid : Vid) (mac : Mac) (known : Knowledge) → Leaves known (with_learned now ip vid mac known)
learned_leaves now ip vid mac known = record {
  tables = refl;
  knows = λ k. record { tables = k.tables; marks = k.marks; services = record { offers = k.services.offers; choice = k.services.choice } };
}

ask_leaves : (call : PairCall) (before known : Knowledge) → Leaves before known → Leaves before (with_ask call known)
ask_leaves call before known l = record {
  tables = l.tables;
  knows = λ k. let more = l.knows k in record { tables = more.tables; marks = more.marks; services = record { offers = more.services.offers; choice = more.services.choice } };
}

-- ---- questions
pub question_leaves : (q : Queries) (me : Mac) (now : ℕ) (mac : Mac) (own_ip asked_ip : ℕ) (vid : Vid) (known : Knowledge) → Leaves known (after_question q me now mac own_ip asked_ip vid known)
question_leaves q me now mac own_ip asked_ip vid known =
    let learned = with_learned now own_ip vid mac known in
    let l = learned_leaves now own_ip vid mac known in
    leaves_if known known.services.settings.arp_table (after_asking q me now asked_ip vid learned) known
    (leaves_if known (is_asked q me learned now asked_ip vid) (with_ask (AskedFor asked_ip vid) learned) learned (ask_leaves (AskedFor asked_ip vid) known learned l) l)
    (nothing_leaves known)

-- ---- packets
came_leaves : (now : ℕ) (came : Option ArpCame) (known : Knowledge) → Leaves known (after_came now came known)
came_leaves now None known = nothing_leaves known
came_leaves now (Some (Puts m)) known = learned_leaves now m.sender_ip m.vid m.sender known
came_leaves now (Some (Asks m)) known = nothing_leaves known
came_leaves now (Some (Tells m)) known =
    ask_leaves (ToldOf m.sender_ip m.vid) known (with_learned now m.sender_ip m.vid m.sender known) (learned_leaves now m.sender_ip m.vid m.sender known)

-- a packet with its sender, for this node or not
pub arp_leaves : (here : Bool) (now : ℕ) (came : Option ArpCame) (known : Knowledge) → Leaves known (cond here (after_arp now came known) known)
arp_leaves here now came known =
    leaves_if known here (after_arp now came known) known
    (leaves_if known known.services.settings.arp_table (after_came now came known) known (came_leaves now came known) (nothing_leaves known))
    (nothing_leaves known)
