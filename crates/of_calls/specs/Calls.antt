-- The calls that a text says: a line has the name of a service, and what the service takes.
use Rattle.std.specs.Prelude.{ℕ, List, [], length, codes, Option, Some, None, Result, Ok, Err, nat_eq, option_map}
use Rattle.std.specs.Prelude.{if◌then◌else◌}
use Rattle.std.specs.Str.{bytes_eq}
use Rattle.of_cells.specs.declared.cells.Cell.{Cell}
use Rattle.of_nodes.specs.declared.phandles.Phandle.{Phandle}
use Rattle.of_client.specs.Services.{Service, Child, FindDevice, GetProp, GetPropLen, InstanceToPackage, NextProp}
use Rattle.of_client.specs.Services.{PackageToPath, Parent, Peer}
use Rattle.of_calls.specs.Lines.{lines, place_at, word_at}
use Rattle.of_calls.specs.Said.{all_said, ended, go_on, number_at, text_at}
use Rattle.of_calls.specs.declared.fault.TextFault.{TextFault}
use Rattle.of_calls.specs.declared.fault.TextFault.TheVariants as fault
use Rattle.of_calls.specs.declared.service.HandleKind.{HandleKind}
use Rattle.of_calls.specs.declared.service.HandleKind.TheVariants as handle
use Rattle.of_calls.specs.declared.service.Kind.{Kind}
use Rattle.of_calls.specs.declared.service.Kind.TheVariants as kind

-- ---- names

-- the service of a name that takes a handle first
unfoldable pub handle_kind_of : List ℕ → Option HandleKind
handle_kind_of name =
    if bytes_eq name (codes "child") then Some handle.Child
    else (if bytes_eq name (codes "peer") then Some handle.Peer
    else (if bytes_eq name (codes "parent") then Some handle.Parent
    else (if bytes_eq name (codes "getproplen") then Some handle.GetPropLen
    else (if bytes_eq name (codes "getprop") then Some handle.GetProp
    else (if bytes_eq name (codes "nextprop") then Some handle.NextProp
    else (if bytes_eq name (codes "instance-to-package") then Some handle.InstanceToPackage
    else (if bytes_eq name (codes "package-to-path") then Some handle.PackageToPath else None)))))))

-- the service of a name
unfoldable pub kind_of : List ℕ → Option Kind
kind_of name =
    if bytes_eq name (codes "finddevice") then Some kind.FindDevice
    else option_map kind.OfHandle (handle_kind_of name)

-- ---- what a service takes

-- the node with a handle
abbrev pub node : Cell → Phandle
node x = record { 0 = x }

-- how many words of `getprop` stand before the room: the name may be left out
abbrev pub before_room : List ℕ → ℕ
before_room line = if nat_eq (length (word_at 3 line)) 0 then 2 else 3

-- the name that `getprop` is given
abbrev pub name_before_room : ℕ → List ℕ → Result (List ℕ) TextFault
name_before_room number line = if nat_eq (length (word_at 3 line)) 0 then Ok [] else text_at number 2 line

-- what a service of the line with a number is asked with a handle; a name that is left out is empty
unfoldable pub of_handle : HandleKind → Cell → ℕ → List ℕ → Result Service TextFault
of_handle handle.Child x number line = ended number 2 line (Child (node x))
of_handle handle.Peer x number line = ended number 2 line (Peer (node x))
of_handle handle.Parent x number line = ended number 2 line (Parent (node x))
of_handle handle.GetPropLen x number line =
    go_on (λ name. ended number 3 line (GetPropLen (node x) name)) (text_at number 2 line)
of_handle handle.GetProp x number line =
    go_on (λ name. go_on (λ room. ended number 4 line (GetProp (node x) name room.0))
    (number_at number (before_room line) line)) (name_before_room number line)
of_handle handle.NextProp x number line =
    go_on (λ name. ended number 3 line (NextProp (node x) name)) (text_at number 2 line)
of_handle handle.InstanceToPackage x number line = ended number 2 line (InstanceToPackage x)
of_handle handle.PackageToPath x number line =
    go_on (λ room. ended number 3 line (PackageToPath (node x) room.0)) (number_at number 2 line)

-- what a service is asked; a path that is left out is empty
unfoldable pub asked : Kind → ℕ → List ℕ → Result Service TextFault
asked kind.FindDevice number line =
    go_on (λ path. ended number 2 line (FindDevice path)) (text_at number 1 line)
asked (kind.OfHandle k) number line = go_on (λ x. of_handle k x number line) (number_at number 1 line)

-- ---- lines

-- what the service of a line is asked, or that there is none of its name
abbrev pub asked_of : Option Kind → ℕ → List ℕ → Result Service TextFault
asked_of (Some k) number line = asked k number line
asked_of None number line = Err (fault.Unknown (place_at number 0 line))

-- the call of the line with a number; a line without words names no service
unfoldable pub call_in : ℕ → List ℕ → Result Service TextFault
call_in number line = asked_of (kind_of (word_at 0 line)) number line

-- the calls of a text, or the first of its words that fits nowhere
abbrev pub parsed : List ℕ → Result (List Service) TextFault
parsed text = all_said call_in 1 (lines text)
