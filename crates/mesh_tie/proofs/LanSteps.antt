-- A frame that comes on the LAN of a node: what the node puts, and what it knows then.
use Rattle.std.proofs.Common.{◌≡◌, ℕ, Bool, true, false, cond, List, [], Option, Some, None, refl, sym, ◌∙◌}
use Rattle.std.specs.List.{AllByRecursion}
use Rattle.mesh_base.specs.declared.address.Mac.{Mac}
use Rattle.mesh_base.specs.declared.client.Key.{Key}
use Rattle.mesh_model.specs.Acts.Choosing.{claimed_first, from_lan_acts, on_from_lan, sighting_acts, whole_acts}
use Rattle.mesh_model.specs.Acts.FrameRows.{frame_acts}
use Rattle.mesh_model.specs.Bridges.Verdicts.{verdict_from_lan}
use Rattle.mesh_model.specs.Clients.Lans.{bridge}
use Rattle.mesh_model.specs.Clients.Log.{LanFrame, Log}
use Rattle.mesh_model.specs.Clients.Mentions.{Mention, key_of, mentions, next_mentions, passed_from_lan}
use Rattle.mesh_model.specs.Knowledge.Known.{Knowledge}
use Rattle.mesh_model.specs.Knowledge.Steps.{after_bridged, after_passed, after_sighting, knowledge, next_knowledge, stays_on_lan}
use Rattle.mesh_model.specs.Packets.LanFrames.{LanMessage, Nothing, carried_by, claim_in, client_frame_in, is_claiming, is_of_gateway, lan_message_of}
use Rattle.mesh_model.specs.Packets.Payload.{ClientFrame, client_frame_of}
use Rattle.mesh_model.specs.Routes.Queries.{Queries}
use Rattle.mesh_laws.specs.Machine.World.{World}
use Rattle.mesh_tie.specs.Sources.{IsWhole}
use Rattle.mesh_tie.specs.Steps.{IsClient}
use Rattle.mesh_tie.specs.Tie.{KnowsWhole}
use Rattle.mesh_tie.proofs.BridgeActs.{claimed_puts}
use Rattle.mesh_tie.proofs.CalmRows.{calm_bridges, calm_frame, calm_if}
use Rattle.mesh_tie.proofs.EntryLemmas.{each_appended}
use Rattle.mesh_tie.proofs.KnowsLemmas.{sighting_knows}
use Rattle.mesh_tie.proofs.NodeSteps.{frame_knows, frame_same, sighting_row}
use Rattle.mesh_tie.proofs.Sayable.{IsCalm, Sayable, calm_row}

-- ---- what comes
-- the client frame that bytes on a LAN carry, where they carry one, is from a client that can be told
abbrev pub BringsClient : List ℕ → Type 0
BringsClient bytes = (frame : ClientFrame) → client_frame_in (lan_message_of bytes) ≡ Some frame → IsClient (key_of frame.src frame.vid)

-- a gateway passes what came
pub passed_came : (me : Mac) (older : Log) (now : ℕ) (o : Option ClientFrame) (frame : ClientFrame) → passed_from_lan me older now o ≡ Some frame → o ≡ Some frame
passed_came me older now None frame is = cc
passed_came me older now (Some one) frame is = go (verdict_from_lan me (bridge older).claims now (key_of one.src one.vid)).pass is
  where
    go : (b : Bool) → cond b (Some one) None ≡ Some frame → Some one ≡ Some frame
    go true e = e
    go false e = cc

-- it is read as any payload is
pub lan_read : (bytes : List ℕ) (frame : ClientFrame) → client_frame_in (lan_message_of bytes) ≡ Some frame → client_frame_of bytes ≡ Some frame
unfolding lan_message_of
lan_read bytes frame is = go (is_of_gateway bytes) is
  where
    claim : (b : Bool) (message : LanMessage) → client_frame_in message ≡ None → client_frame_in (cond b message Nothing) ≡ Some frame → client_frame_of bytes ≡ Some frame
    claim true message none e = let both : ◌≡◌ {A = Option ClientFrame} None (Some frame) = sym none ∙ e in absurd cc
    claim false message none e = cc

    carried : (o : Option ClientFrame) → client_frame_in (carried_by o) ≡ Some frame → o ≡ Some frame
    carried None e = cc
    carried (Some one) e = e

    go : (b : Bool) → client_frame_in (cond b (claim_in bytes) (carried_by (client_frame_of bytes))) ≡ Some frame → client_frame_of bytes ≡ Some frame
    go true e = claim (is_claiming bytes) _ refl e
    go false e = carried (client_frame_of bytes) e

-- ---- what the node puts
pub lan_on : (q : Queries) (me : Mac) (mine : Log) (now : ℕ) (known : Knowledge) (ms : List Mention) (frame : ClientFrame) → AllByRecursion IsCalm (on_from_lan q me mine now known ms frame)
lan_on q me mine now known ms frame =
    let acts = frame_acts q known ms (record { me = me; now = now }) frame in
    calm_if (stays_on_lan q ms (bridge mine).lan now (key_of frame.dst frame.vid) known) [] acts tt (calm_frame q known ms (record { me = me; now = now }) frame)

pub lan_row : (orig : Mac) (log : Log) (root : ℕ) (w : World) (q : Queries) (me : Mac) (mine : Log) (now : ℕ) (bytes : List ℕ) → BringsClient bytes → IsWhole me → KnowsWhole (knowledge q me mine)
    → AllByRecursion (Sayable orig log root w) (whole_acts q me mine now (LanFrame bytes))
lan_row orig log root w q me mine now bytes brings whole k =
    each_appended (Sayable orig log root w) (claimed_first me mine now came) (from_lan_acts q me mine now ms (passed_from_lan me mine now came))
    (calm_row orig log root w (claimed_first me mine now came) (calm_bridges (claimed_first me mine now came) (claimed_puts me mine now came)))
    (go (passed_from_lan me mine now came) (λ frame is. brings frame (passed_came me mine now came frame is)))
  where
    came : Option ClientFrame
    came = client_frame_in (lan_message_of bytes)

    ms : List Mention
    ms = next_mentions me mine (mentions me mine) now (LanFrame bytes)

    go : (o : Option ClientFrame) → ((frame : ClientFrame) → o ≡ Some frame → IsClient (key_of frame.src frame.vid)) → AllByRecursion (Sayable orig log root w) (from_lan_acts q me mine now ms o)
    go None client = tt
    go (Some frame) client =
        let key = key_of frame.src frame.vid in
        let known = after_sighting q me mine now key (knowledge q me mine) in
        each_appended (Sayable orig log root w) (sighting_acts q me mine now key) (on_from_lan q me mine now known ms frame)
        (sighting_row orig log root w q me mine now key whole k (client frame refl).fits)
        (calm_row orig log root w (on_from_lan q me mine now known ms frame) (lan_on q me mine now known ms frame))

-- ---- what the node knows
bridged_same : (q : Queries) (now : ℕ) (stays : Bool) (key : Key) (known : Knowledge) → (after_bridged q now stays key known).tables ≡ known.tables
bridged_same q now true key known = refl
bridged_same q now false key known = frame_same q now key known

passed_same : (q : Queries) (me : Mac) (mine : Log) (known : Knowledge) (now : ℕ) (ms : List Mention) (o : Option ClientFrame) → (after_passed q me mine known now ms o).tables ≡ known.tables
passed_same q me mine known now ms None = refl
passed_same q me mine known now ms (Some frame) =
    let seen = after_sighting q me mine now (key_of frame.src frame.vid) known in
    bridged_same q now (stays_on_lan q ms (bridge mine).lan now (key_of frame.dst frame.vid) seen) (key_of frame.dst frame.vid) seen

pub lan_same : (q : Queries) (me : Mac) (mine : Log) (known : Knowledge) (now : ℕ) (bytes : List ℕ) → (next_knowledge q me mine known now (LanFrame bytes)).tables ≡ known.tables
lan_same q me mine known now bytes = passed_same q me mine known now (next_mentions me mine (mentions me mine) now (LanFrame bytes)) (passed_from_lan me mine now (client_frame_in (lan_message_of bytes)))

bridged_knows : (q : Queries) (now : ℕ) (stays : Bool) (key : Key) (known : Knowledge) → KnowsWhole known → KnowsWhole (after_bridged q now stays key known)
bridged_knows q now true key known k = k
bridged_knows q now false key known k = frame_knows q now key known k

passed_knows : (q : Queries) (me : Mac) (mine : Log) (known : Knowledge) (now : ℕ) (ms : List Mention) (o : Option ClientFrame) → KnowsWhole known → KnowsWhole (after_passed q me mine known now ms o)
passed_knows q me mine known now ms None k = k
passed_knows q me mine known now ms (Some frame) k =
    let key = key_of frame.src frame.vid in
    let seen = after_sighting q me mine now key known in
    bridged_knows q now (stays_on_lan q ms (bridge mine).lan now (key_of frame.dst frame.vid) seen) (key_of frame.dst frame.vid) seen (sighting_knows q me mine now key known k)

pub lan_knows : (q : Queries) (me : Mac) (mine : Log) (known : Knowledge) (now : ℕ) (bytes : List ℕ) → KnowsWhole known → KnowsWhole (next_knowledge q me mine known now (LanFrame bytes))
lan_knows q me mine known now bytes k = passed_knows q me mine known now (next_mentions me mine (mentions me mine) now (LanFrame bytes)) (passed_from_lan me mine now (client_frame_in (lan_message_of bytes))) k
