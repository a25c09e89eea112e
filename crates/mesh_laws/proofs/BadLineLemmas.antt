-- A line `bad` is the last: no line of a packet or of a container begins so, and at most one line ends them.
use Rattle.std.proofs.Common.{◌≡◌, ℕ, zero, suc, ◌≤◌, List, [], ◌∷◌, ◌++◌, length, Option, Some, None, refl, ap, subst, arith, true, false}
use Rattle.std.specs.Prelude.{map, flat_map, slice_get, slice_index, nat_eq, Bool, if◌then◌else◌}
use Rattle.std.specs.List.{AllByRecursion}
use Rattle.mesh_model.specs.declared.packet.Head.{Head}
use Rattle.mesh_model.specs.declared.packet.Head.TheVariants.{IvOgm, Bcast, Elp, Ogm2, Unicast, Frag, Unicast4, Icmp, Utvlv}
use Rattle.mesh_model.specs.declared.link_frame.Ending.{Ending}
use Rattle.mesh_model.specs.declared.link_frame.Ending.TheVariants.{Rest, BadPacket, BadContainer}
use Rattle.mesh_model.specs.Packets.Shapes.{TailKind, shape_of}
use Rattle.mesh_model.specs.Packets.Shapes.TailKind.{containers, all_the_rest, nothing}
use Rattle.mesh_model.specs.Packets.Bodies.{VlanSum, TtChange, TtData, TtPart}
use Rattle.mesh_model.specs.Packets.Containers.{Container}
use Rattle.mesh_model.specs.Packets.Contents.{Content, content_of, sound_containers}
use Rattle.mesh_model.specs.Packets.Contents.Content.{gateway, translation, part, roaming, multicast, unread}
use Rattle.mesh_model.specs.Packets.FirstPacket.{Packet}
use Rattle.mesh_model.specs.Packets.LinkFrame.{link_frame}
use Rattle.mesh_model.specs.Text.PacketLines.{packet_line}
use Rattle.mesh_model.specs.Text.Tables.{vlan_line}
use Rattle.mesh_model.specs.Text.ContainerLines.{plain_line, gateway_line, roaming_line, multicast_line, table_start, part_start, change_line, table_lines, part_lines, rows_of_table, content_lines, container_lines}
use Rattle.mesh_model.specs.Text.Decode.{ending_lines, rest_line, tail_lines, packet_lines}
use Rattle.mesh_laws.specs.PacketLaws.{IsBad, BadIsLast}

-- no `bad` line
abbrev IsFine : List ℕ → Type 0
IsFine line = IsBad line → ⊥

abbrev AreFine : List (List ℕ) → Type 0
AreFine lines = AllByRecursion IsFine lines

-- the first byte of a line
abbrev first : List ℕ → ℕ
first line = slice_index line 0

fine-append : (xs ys : List (List ℕ)) → AreFine xs → AreFine ys → AreFine (xs ++ ys)
fine-append [] ys some others = others
fine-append (x ∷ xs) ys some others = (some.0, fine-append xs ys some.1 others)

fine-map : {X : Type 0} (f : X → List ℕ) → ((x : X) → IsFine (f x)) → (xs : List X) → AreFine (map f xs)
fine-map f fine [] = tt
fine-map f fine (x ∷ xs) = (fine x, fine-map f fine xs)

fine-flat_map : {X : Type 0} (f : X → List (List ℕ)) → ((x : X) → AreFine (f x)) → (xs : List X) → AreFine (flat_map f xs)
fine-flat_map f fine [] = tt
fine-flat_map f fine (x ∷ xs) = fine-append (f x) (flat_map f xs) (fine x) (fine-flat_map f fine xs)

fine-packet : (head : Head) (len : ℕ) → IsFine (packet_line head len)
unfolding packet_line
fine-packet (IvOgm ttl flags seq orig prev tq) len bad = absurd (omega (arith, ap first bad))
fine-packet (Bcast ttl seq orig) len bad = absurd (omega (arith, ap first bad))
fine-packet (Elp orig seq interval) len bad = absurd (omega (arith, ap first bad))
fine-packet (Ogm2 ttl flags seq orig throughput) len bad = absurd (omega (arith, ap first bad))
fine-packet (Unicast ttl ttvn dst) len bad = absurd (omega (arith, ap first bad))
fine-packet (Frag ttl index priority dst orig seq total) len bad = absurd (omega (arith, ap first bad))
fine-packet (Unicast4 ttl ttvn dst src subtype) len bad = absurd (omega (arith, ap first bad))
fine-packet (Icmp ttl msg dst orig uid seq) len bad = absurd (omega (arith, ap first bad))
fine-packet (Utvlv ttl dst src) len bad = absurd (omega (arith, ap first bad))

fine-vlan : (vlan : VlanSum) → IsFine (vlan_line vlan)
unfolding vlan_line
fine-vlan vlan bad = absurd (omega (arith, ap first bad))

fine-change : (change : TtChange) → IsFine (change_line change)
unfolding change_line
fine-change change bad = absurd (omega (arith, ap first bad))

fine-rows : (table : TtData) → AreFine (rows_of_table table)
fine-rows table = fine-append (map vlan_line table.vlans) (map change_line table.changes) (fine-map vlan_line fine-vlan table.vlans) (fine-map change_line fine-change table.changes)

fine-table : (container : Container) (table : TtData) → AreFine (table_lines container table)
unfolding table_start
fine-table container table = ((λ bad. absurd (omega (arith, ap first bad))), fine-rows table)

fine-part : (container : Container) (told : TtPart) → AreFine (part_lines container told)
unfolding part_start
fine-part container told = ((λ bad. absurd (omega (arith, ap first bad))), fine-rows told.table)

fine-content : (container : Container) (content : Option Content) → AreFine (content_lines container content)
unfolding plain_line gateway_line roaming_line multicast_line
fine-content container None = tt
fine-content container (Some (gateway bandwidth)) = ((λ bad. absurd (omega (arith, ap first bad))), tt)
fine-content container (Some (translation table)) = fine-table container table
fine-content container (Some (part told)) = fine-part container told
fine-content container (Some (roaming client)) = ((λ bad. absurd (omega (arith, ap first bad))), tt)
fine-content container (Some (multicast flags)) = ((λ bad. absurd (omega (arith, ap first bad))), tt)
fine-content container (Some unread) = ((λ bad. absurd (omega (arith, ap first bad))), tt)

fine-tail : (kind : TailKind) (tail : List ℕ) → AreFine (tail_lines kind tail)
fine-tail containers tail = fine-flat_map container_lines (λ container. fine-content container (content_of container)) (sound_containers tail)
fine-tail all_the_rest tail = tt
fine-tail nothing tail = tt

fine-packets : (packet : Packet) → AreFine (packet_lines packet)
fine-packets packet = (fine-packet packet.head (length packet.tail), fine-tail (shape_of packet.head).tail packet.tail)

-- what ends the packets has one line at most
one_if : (nothing_left : Bool) (line : List ℕ) → length (if nothing_left then [] else line ∷ []) ≤ 1
one_if true line = omega arith
one_if false line = omega arith

one-line : (ending : Ending) → length (ending_lines ending) ≤ 1
one-line (Rest len) = one_if (nat_eq len 0) (rest_line len)
one-line (BadPacket cause) = omega arith
one-line (BadContainer flaw) = omega arith

only : (ys : List (List ℕ)) (i : ℕ) (line : List ℕ) → length ys ≤ 1 → slice_get ys i ≡ Some line → suc i ≡ length ys
only [] i line one is = absurd cc
only (y ∷ []) zero line one is = refl
only (y ∷ []) (suc i) line one is = absurd cc
only (y ∷ z ∷ zs) i line one is = absurd (omega (arith, one))

last_of : (xs ys : List (List ℕ)) (i : ℕ) (line : List ℕ) → AreFine xs → length ys ≤ 1 → slice_get (xs ++ ys) i ≡ Some line → IsBad line → suc i ≡ length (xs ++ ys)
last_of [] ys i line fine one is bad = only ys i line one is
last_of (x ∷ xs) ys zero line fine one is bad = let same : line ≡ x = cc in absurd (fine.0 (subst IsBad same bad))
last_of (x ∷ xs) ys (suc i) line fine one is bad = ap suc (last_of xs ys i line fine.1 one is bad)

pub bad_is_last : BadIsLast
bad_is_last bytes line i is bad =
    let frame = link_frame bytes in
    last_of (flat_map packet_lines frame.packets) (ending_lines frame.ending) i line
    (fine-flat_map packet_lines fine-packets frame.packets) (one-line frame.ending) is bad
