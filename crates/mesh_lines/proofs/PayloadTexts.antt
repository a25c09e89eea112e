-- Client frames that are spelled alike have texts alike.
use Rattle.std.proofs.Common.{◌≡◌, ◌-◌, ◌==◌, ℕ, Bool, true, false, cond, List, [], ◌++◌, drop, sym, ap, subst, ◌∙◌, append_assoc}
use Rattle.byteorder.specs.Endian.{big_bytes}
use Rattle.mesh_base.specs.declared.address.Mac.{Mac}
use Rattle.mesh_base.specs.declared.client.Vid.{Vid}
use Rattle.mesh_model.specs.Packets.Ethernet.{tag_spelling}
use Rattle.mesh_model.specs.Packets.Numbers.{client_ethertype, vlan_ethertype}
use Rattle.mesh_model.specs.Packets.Payload.{ClientFrame, payload_spelling}
use Rattle.mesh_tie.specs.Sources.{IsWhole}
use Rattle.mesh_tie.proofs.HeadLemmas.{mac6, six}

-- what follows the addresses
behind_addresses : (dst src : Mac) (vid : Vid) (text : List ℕ) → IsWhole dst → IsWhole src → drop 12 (payload_spelling (record { dst = dst; src = src; vid = vid; text = text })) ≡ tag_spelling vid ++ (big_bytes 2 client_ethertype ++ text)
behind_addresses dst src vid text whole also =
    let d = six dst whole in
    let s = six src also in
    subst (λ (x : Mac). drop 12 (payload_spelling (record { dst = x; src = src; vid = vid; text = text })) ≡ tag_spelling vid ++ (big_bytes 2 client_ethertype ++ text)) (sym d.is)
    (subst (λ (y : Mac). drop 12 (payload_spelling (record { dst = mac6 d.a d.b d.c d.d d.e d.f; src = y; vid = vid; text = text })) ≡ tag_spelling vid ++ (big_bytes 2 client_ethertype ++ text)) (sym s.is)
    (append_assoc (tag_spelling vid) (big_bytes 2 client_ethertype) text))

-- a tag, where there is one, begins with another type
abbrev tagged : Bool → Vid → List ℕ → List ℕ
tagged untagged vid text = cond untagged [] (big_bytes 2 vlan_ethertype ++ big_bytes 2 (vid.0 - 32768)) ++ (big_bytes 2 client_ethertype ++ text)

texts_are : (b c : Bool) (a o : Vid) (t u : List ℕ) → tagged b a t ≡ tagged c o u → t ≡ u
texts_are true true a o t u e = ap (drop 2) e
texts_are true false a o t u e = cc
texts_are false true a o t u e = cc
texts_are false false a o t u e = ap (drop 6) e

pub texts_alike : (one other : ClientFrame) → IsWhole one.dst → IsWhole one.src → IsWhole other.dst → IsWhole other.src → payload_spelling one ≡ payload_spelling other → one.text ≡ other.text
texts_alike one other dst src to from e = texts_are (one.vid.0 == 0) (other.vid.0 == 0) one.vid other.vid one.text other.text
    (sym (behind_addresses one.dst one.src one.vid one.text dst src) ∙ ap (drop 12) e ∙ behind_addresses other.dst other.src other.vid other.text to from)
