-- What a mesh gains of events by what a line does.
use Rattle.std.proofs.Common.{◌≡◌, ◌+◌, ℕ, nat_lt, List, [], ◌∷◌, ◌++◌, length, drop, Ok, Err, cond, refl, sym, ap, ◌∙◌}
use Rattle.std.proofs.Math.Seq.{drop-append_seam}
use Rattle.mesh_base.specs.declared.event.Event.{Event}
use Rattle.mesh_model.specs.declared.ending.LimitName.TheVariants.{Frames, FrameBytes}
use Rattle.mesh_model.specs.Clients.Log.{Line, LineGiven}
use Rattle.mesh_model.specs.Net.Inputs.{all_given, given_to}
use Rattle.mesh_model.specs.Net.Lans.{attachment, joins_lan, with_lan}
use Rattle.mesh_model.specs.Net.Mesh.{LanPut, NetLan, Mesh, Setup}
use Rattle.mesh_model.specs.Net.Runs.{delivered}
use Rattle.mesh_model.specs.Net.Sending.{put_bytes, put_event, total_bytes, with_put}
use Rattle.mesh_model.specs.Run.Passing.{events_since}
use Rattle.mesh_laws.proofs.Lines.Courses.{Follows}
use Rattle.mesh_laws.proofs.Schedule.Sends.{ok_one}
use Rattle.mesh_laws.proofs.Schedule.Steps.{Effect, all_effect, delivered_effect, no_ticks, tickless}
use Rattle.mesh_tie.specs.Steps.{with_lan_frame}
use Rattle.mesh_tie.proofs.SentLemmas.{chosen}

-- a mesh has the events of another and more
pub record GainsEvents (before after : Mesh) : Type 0 where
  pub more : List Event
  pub events : after.events ≡ before.events ++ more

pub gained_is : (before after : Mesh) → (g : GainsEvents before after) → events_since before after ≡ g.more
gained_is before after g = ap (drop (length before.events)) g.events ∙ drop-append_seam before.events g.more

pub effect_gains : (setup : Setup) (now : ℕ) (mesh after : Mesh) → Effect setup no_ticks now mesh after → GainsEvents mesh after
effect_gains setup now mesh after effect = record { more = effect.adds.more_events; events = effect.adds.events }

pub course_gains : (before after : Mesh) → Follows before after → GainsEvents before after
course_gains before after f = record { more = f.more; events = f.events }

pub given_gains : (setup : Setup) (place now : ℕ) (line : LineGiven) (mesh after : Mesh) → given_to setup place now 0 (Line line) mesh ≡ Ok after → GainsEvents mesh after
given_gains setup place now line mesh after e = effect_gains setup now mesh after (tickless setup mesh place now 0 (Line line) after refl tt e)

pub all_gains : (setup : Setup) (places : List ℕ) (now : ℕ) (line : LineGiven) (mesh after : Mesh) → all_given setup places now (Line line) mesh ≡ Ok after → GainsEvents mesh after
all_gains setup places now line mesh after e = effect_gains setup now mesh after (all_effect setup places now (Line line) mesh after refl (λ frames. tt) e)

pub again_gains : (setup : Setup) (place now : ℕ) (mesh after : Mesh) → delivered setup place now mesh ≡ Ok after → GainsEvents mesh after
again_gains setup place now mesh after e = effect_gains setup now mesh after (delivered_effect setup mesh place now after e)

pub lan_gains : (setup : Setup) (name : List ℕ) (gateways : List ℕ) (now : ℕ) (mesh after : Mesh) → joins_lan setup name gateways now mesh ≡ Ok after → GainsEvents mesh after
lan_gains setup name gateways now mesh after e =
    let lan : NetLan = record { name = name; gateways = gateways } in
    let effect = all_effect setup gateways now (attachment mesh gateways) (with_lan lan mesh) after refl (λ frames. tt) e in
    record { more = effect.adds.more_events; events = effect.adds.events }

-- a frame on a LAN is all that joins
pub put_is : (setup : Setup) (put : LanPut) (mesh after : Mesh) → with_put setup put mesh ≡ Ok after → with_lan_frame put mesh ≡ after
put_is setup put mesh after e =
    let frames = nat_lt setup.frames_limit (length mesh.frames + length (mesh.puts ++ put ∷ [])) in
    let room = nat_lt setup.bytes_limit (total_bytes mesh.frames + put_bytes (mesh.puts ++ put ∷ [])) in
    let one = chosen frames Frames (cond room (Err FrameBytes) (Ok (with_lan_frame put mesh))) after e in
    ok_one (with_lan_frame put mesh) after (chosen room FrameBytes (Ok (with_lan_frame put mesh)) after one)

pub put_gains : (setup : Setup) (put : LanPut) (mesh after : Mesh) → with_put setup put mesh ≡ Ok after → GainsEvents mesh after
put_gains setup put mesh after e = record { more = put_event mesh put ∷ []; events = ap (λ (m : Mesh). m.events) (sym (put_is setup put mesh after e)) }
