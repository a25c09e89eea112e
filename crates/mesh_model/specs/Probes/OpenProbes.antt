-- The open probes of ping and traceroute, by the calls that were made, newest first. Probes are
-- numbered from 1, and the k-th has the number k modulo 65,536. A probe is open from the call that
-- gave it to the first answer to its number, the closing of it, or a later probe with its number.
-- Ping sends one probe with ttl 50. Traceroute begins with ttl 1; where a probe's answer says that
-- its ttl was exceeded, the next one follows with a ttl of one more, up to 50; any other answer
-- ends the session. The main words are `probes_by` and `told`.
use Rattle.std.specs.Prelude.{ℕ, ◌+◌, ◌%◌, ◌==◌, ◌&&◌, ◌||◌, nat_lt, Bool, true, false, List, [], ◌∷◌, Option, Some, None, if◌then◌else◌}
use Rattle.mesh_base.specs.declared.address.Mac.{Mac}
use Rattle.mesh_model.specs.declared.probe.Probe.{Probe}
use Rattle.mesh_model.specs.declared.probe.OpenProbe.{OpenProbe}
use Rattle.mesh_model.specs.declared.probe.Told.{Told}
use Rattle.mesh_model.specs.declared.probe.Told.TheVariants.{Unknown, Done, Next}
use Rattle.mesh_model.specs.Packets.Numbers.{first_ttl, echo_reply, destination_unreachable, ttl_exceeded}

-- a session is started, which for `trace` is a traceroute; an answer of this message type names a
-- probe by its number; the probe of a number is closed
pub data ProbeCall : Type 0 where
  Started : (now : ℕ) → (target : Mac) → (trace : Bool) → ProbeCall
  Answered : (now seq msg : ℕ) → ProbeCall
  Closed : (seq : ℕ) → ProbeCall

-- how many probes were given so far, and the open one of each number
pub record Probes : Type 0 where
  pub given : ℕ
  pub waiting : ℕ → Option OpenProbe

-- how many numbers there are
abbrev pub numbers : ℕ
numbers = 65536

-- the ttl of a ping, and the greatest of a traceroute
abbrev pub last_hop : ℕ
last_hop = first_ttl

-- whether a message of this type answers an echo request
abbrev pub is_answer : ℕ → Bool
is_answer msg = msg == echo_reply || msg == destination_unreachable || msg == ttl_exceeded

-- the ttl of a session's first probe
abbrev pub session_ttl : Bool → ℕ
session_ttl true = 1
session_ttl false = last_hop

-- the number of the probe that comes after so many
abbrev pub next_number : ℕ → ℕ
next_number given = (given + 1) % numbers

-- the probe to a target with this ttl that comes after so many
abbrev pub probe_after : ℕ → Mac → ℕ → Probe
probe_after given target ttl = record { target = target; seq = next_number given; ttl = ttl }

-- no probe was given yet
abbrev pub no_probes : Probes
no_probes = record { given = 0; waiting = λ seq. None }

-- the probes with one more, which ends an open one with its number
abbrev pub with_probe : ℕ → Mac → Bool → ℕ → Probes → Probes
with_probe now target trace ttl before = record {
  given = before.given + 1;
  waiting = λ seq. if seq == next_number before.given
      then Some (record { probe = probe_after before.given target ttl; trace = trace; sent = now })
      else before.waiting seq;
}

-- the probes without the open one of a number
abbrev pub without_probe : ℕ → Probes → Probes
without_probe number before = record {
  given = before.given;
  waiting = λ seq. if seq == number then None else before.waiting seq;
}

-- whether a further probe follows an answer of this type to an open one
abbrev pub leads_on : ℕ → OpenProbe → Bool
leads_on msg asked = asked.trace && (nat_lt asked.probe.ttl last_hop && msg == ttl_exceeded)

-- the probes with the one that follows an open one
abbrev pub with_next : ℕ → OpenProbe → Probes → Probes
with_next now asked before =
    with_probe now asked.probe.target asked.trace (asked.probe.ttl + 1) before

-- the probes after an answer to the open one of a number, where there is one
abbrev pub answered_probes : ℕ → ℕ → ℕ → Probes → Option OpenProbe → Probes
answered_probes now seq msg before None = before
answered_probes now seq msg before (Some asked) =
    if leads_on msg asked then with_next now asked (without_probe seq before)
    else without_probe seq before

-- the probes after a call, from those before
abbrev pub next_probes : ProbeCall → Probes → Probes
next_probes (Started now target trace) before = with_probe now target trace (session_ttl trace) before
next_probes (Answered now seq msg) before = answered_probes now seq msg before (before.waiting seq)
next_probes (Closed seq) before = without_probe seq before

-- the probes after calls, newest first, of which none was refused
abbrev pub probes_by : List ProbeCall → Probes
probes_by [] = no_probes
probes_by (call ∷ older) = next_probes call (probes_by older)

-- what a session that was started gives first, after these probes
abbrev pub first_probe : Mac → Bool → Probes → Probe
first_probe target trace before = probe_after before.given target (session_ttl trace)

-- what an answer of this type says of an open probe, where so many were given
abbrev pub told_of : ℕ → ℕ → OpenProbe → Told
told_of given msg asked =
    if leads_on msg asked then
    Next asked.probe.ttl asked.sent (probe_after given asked.probe.target (asked.probe.ttl + 1))
    else Done asked.probe.target asked.sent asked.probe.ttl

-- what an answer of this type to a number says
abbrev pub told_to : ℕ → ℕ → Option OpenProbe → Told
told_to given msg None = Unknown
told_to given msg (Some asked) = told_of given msg asked

-- what an answer of this type to a number says, after these probes
abbrev pub told : ℕ → ℕ → Probes → Told
told seq msg before = told_to before.given msg (before.waiting seq)
