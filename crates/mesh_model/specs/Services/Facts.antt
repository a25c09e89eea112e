-- The facts that a node keeps, one of each source and type. A fact is live while it was put or taken
-- less than 600,000 ms ago. One that is put is local; one that is taken is first where its source
-- sent it, else synced. A taken fact replaces the one with its source and type, unless that is live
-- and is local, or is first while the new one is synced. The main words are `kept_fact` and
-- `facts_at`.
use Rattle.std.specs.Prelude.{ℕ, ◌-◌, ◌==◌, ◌&&◌, nat_lt, Bool, true, false, List, [], ◌∷◌, map, filter_map, Option, Some, None, option_and_then, if◌then◌else◌}
use Rattle.std.specs.Ordering.{nat_cmp, ordering_then}
use Rattle.std.specs.declared.cmp.Ordering.{Ordering}
use Rattle.mesh_base.specs.Ordered.{in_order}
use Rattle.mesh_base.specs.declared.address.Mac.{Mac}
use Rattle.mesh_model.specs.declared.service.Fact.{Fact}
use Rattle.mesh_model.specs.declared.service.FactKey.{FactKey}
use Rattle.mesh_model.specs.declared.service.KeptFact.{KeptFact}
use Rattle.mesh_model.specs.declared.service.Mark.{Mark}
use Rattle.mesh_model.specs.declared.service.Mark.TheVariants.{Local, First, Synced}
use Rattle.mesh_model.specs.Routes.Addresses.{mac_order, same_mac}

-- a fact that was put, or taken from a sender
pub data FactCall : Type 0 where
  WasPut : (now : ℕ) → Fact → FactCall
  CameFrom : (now : ℕ) → (sender : Mac) → Fact → FactCall

-- how long a fact is live, in milliseconds
abbrev pub fact_age : ℕ
fact_age = 600000

-- whether a fact is live at a moment
abbrev pub is_live_fact : ℕ → KeptFact → Bool
is_live_fact now kept = nat_lt (now - kept.moment) fact_age

-- whether a fact is of a source and a type
abbrev pub is_fact_of : Mac → ℕ → Fact → Bool
is_fact_of source type_no fact = same_mac fact.source source && (fact.type_no == type_no)

-- the mark of a fact that a sender sent
abbrev pub mark_from : Mac → Fact → Mark
mark_from sender fact = if same_mac sender fact.source then First else Synced

-- whether a mark stands against another that comes
abbrev pub outweighs : Mark → Mark → Bool
outweighs Local new = true
outweighs First Local = false
outweighs First First = false
outweighs First Synced = true
outweighs Synced new = false

-- whether what is kept, if anything, stays at a moment when a fact of this mark comes
abbrev pub stays_kept : ℕ → Mark → Option KeptFact → Bool
stays_kept now new None = false
stays_kept now new (Some kept) = is_live_fact now kept && outweighs kept.mark new

-- what is kept of a source and a type after a fact came for it, from before
abbrev pub taken_fact : ℕ → Mac → Fact → Option KeptFact → Option KeptFact
taken_fact now sender fact before = if stays_kept now (mark_from sender fact) before then before
    else Some (record { moment = now; mark = mark_from sender fact; fact = fact })

-- what is kept of a source and a type after a call, from before
abbrev pub next_fact : Mac → ℕ → FactCall → Option KeptFact → Option KeptFact
next_fact source type_no (WasPut now fact) before = if is_fact_of source type_no fact
    then Some (record { moment = now; mark = Local; fact = fact }) else before
next_fact source type_no (CameFrom now sender fact) before = if is_fact_of source type_no fact
    then taken_fact now sender fact before else before

-- what is kept of a source and a type, by the calls, newest first
abbrev pub kept_fact : List FactCall → Mac → ℕ → Option KeptFact
kept_fact [] source type_no = None
kept_fact (call ∷ older) source type_no =
    next_fact source type_no call (kept_fact older source type_no)

-- ---- rows

-- how two of these stand to one another: by source, then by type
abbrev pub fact_order : FactKey → FactKey → Ordering
fact_order a b = ordering_then (mac_order a.source b.source) (nat_cmp a.type_no b.type_no)

-- the fact of a call
abbrev pub fact_of_call : FactCall → Fact
fact_of_call (WasPut now fact) = fact
fact_of_call (CameFrom now sender fact) = fact

-- the source and the type of a fact
abbrev pub key_of_fact : Fact → FactKey
key_of_fact fact = record { source = fact.source; type_no = fact.type_no }

-- a fact that is kept, where it is live at a moment
abbrev pub if_live : ℕ → KeptFact → Option KeptFact
if_live now kept = if is_live_fact now kept then Some kept else None

-- the live fact of a source and a type at a moment
abbrev pub live_fact : List FactCall → ℕ → FactKey → Option KeptFact
live_fact calls now key = option_and_then (if_live now) (kept_fact calls key.source key.type_no)

-- the live facts at a moment, by source, then by type
abbrev pub facts_at : List FactCall → ℕ → List KeptFact
facts_at calls now = filter_map (live_fact calls now)
    (in_order fact_order (map (λ call. key_of_fact (fact_of_call call)) calls))
