-- Names of documents and of sources.
use Rattle.std.specs.Prelude.{ℕ, Bool, List, length, nat_lt, nat_le, ◌==◌, ◌&&◌, ◌||◌}
use Rattle.std.specs.List.{list_all}

-- A-Z, a-z, 0-9, the dot, the underscore and the dash
abbrev pub is_name_byte : ℕ → Bool
is_name_byte b =
    (nat_le 65 b && nat_le b 90) || (nat_le 97 b && nat_le b 122) || (nat_le 48 b && nat_le b 57)
    || (b == 46) || (b == 95) || (b == 45)

-- 1 up to so many such characters
abbrev pub is_name : ℕ → List ℕ → Bool
is_name longest text = nat_lt 0 (length text) && nat_le (length text) longest && list_all is_name_byte text

-- a document's name has at most 64 characters
abbrev pub is_document_name : List ℕ → Bool
is_document_name text = is_name 64 text

-- a source's name has at most 32 characters
abbrev pub is_source_name : List ℕ → Bool
is_source_name text = is_name 32 text
