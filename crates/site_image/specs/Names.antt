-- The names and the content types of files.
-- [add: content-type] The ending of a name, and its type.
use Rattle.std.specs.Prelude.{ℕ, ◌==◌, Bool, ◌&&◌, not, List, length, nat_le, codes, slice_index, if◌then◌else◌, nat_eq}
use Rattle.std.specs.List.{list_all, ends_with}
use Rattle.site_image.specs.declared.TheConstants.{LONGEST_NAME, LONGEST_KIND}

-- a byte of a name: visible, and not `?`
abbrev pub is_name_byte : ℕ → Bool
is_name_byte b = nat_le 0x21 b && nat_le b 0x7E && not (b == 0x3F)

-- a name has 1 to 64 bytes, of which the first is `/`
abbrev pub is_name : List ℕ → Bool
is_name name = nat_le 1 (length name) && nat_le (length name) LONGEST_NAME && (slice_index name 0 == 0x2F) && list_all is_name_byte name

-- a byte of a content type: visible, or a space
abbrev pub is_kind_byte : ℕ → Bool
is_kind_byte b = nat_le 0x20 b && nat_le b 0x7E

-- a content type has 0 to 64 bytes; the empty one means the type by the name
abbrev pub is_kind : List ℕ → Bool
is_kind kind = nat_le (length kind) LONGEST_KIND && list_all is_kind_byte kind

-- a script is a file whose name ends in `.shtml`
abbrev pub is_script : List ℕ → Bool
is_script name = ends_with nat_eq name (codes ".shtml")

-- the content type by the ending of the name
abbrev pub kind_by_name : List ℕ → List ℕ
kind_by_name name =
    if ends_with nat_eq name (codes ".html") then codes "text/html"
    else if ends_with nat_eq name (codes ".shtml") then codes "text/html"
    else if ends_with nat_eq name (codes ".txt") then codes "text/plain"
    else if ends_with nat_eq name (codes ".css") then codes "text/css"
    else if ends_with nat_eq name (codes ".png") then codes "image/png"
    else if ends_with nat_eq name (codes ".gif") then codes "image/gif"
    else if ends_with nat_eq name (codes ".jpg") then codes "image/jpeg"
    else codes "application/octet-stream"
