-- What stands at a place of the bytes of a dump.
use Rattle.std.proofs.Common.{◌≡◌, ◌≢◌, ℕ, ◌+◌, ◌-◌, ◌^◌, ◌<◌, ◌≤◌, List, [], ◌∷◌, ◌++◌, length, take, drop, get_or, All, refl, sym, ap, subst, ◌∙◌, arith, append_assoc, length-append, length-drop}
use Rattle.std.specs.Int.{from_le_bytes, w32}
use Rattle.std.proofs.Math.Seq.{take-add}
use Rattle.std.proofs.lemmas.List.{take_at, drop_more, drop-drop, take-append-drop, append_cancel_left, length-take-le, take_more, append-nil}
use Rattle.std.proofs.lemmas.Nat.{from_le_bytes-to_le_bytes_4}
use Rattle.hl_bytes.specs.Fields.{le32}
use Rattle.hl_tree.specs.declared.node.Node.{Node}
use Rattle.hl_tree.specs.declared.node.Node.TheVariants.{Dir, File}
use Rattle.hl_tree.specs.Names.{AreNames, path_length}
use Rattle.hl_dump.specs.Dumps.{path_bytes, node_bytes, entry_bytes}
use Rattle.hl_dump.specs.Reading.{Row, IsPart, IsPath, IsEntry}
use Rattle.hl_dump.specs.Parsing.{Stands, head_bytes, content_bytes}
use Rattle.hl_dump.proofs.Entries.{length-path_bytes, path_once, path_in_front, names_are_parts, entry_is}
use Rattle.hl_dump.proofs.Steps.{path_bytes-push}

-- what stands from a place on, cut in two
cut_at : (xs : List ℕ) (at n : ℕ) → drop at xs ≡ take n (drop at xs) ++ drop (at + n) xs
cut_at xs at n = sym (take-append-drop n (drop at xs)) ∙ ap (λ (l : List ℕ). take n (drop at xs) ++ l) (drop-drop n at xs)

number_at : (xs : List ℕ) (at n : ℕ) → take (at + 4) xs ≡ take at xs ++ le32 n → drop at xs ≡ le32 n ++ drop (at + 4) xs
number_at xs at n front = cut_at xs at 4 ∙ ap (λ (l : List ℕ). l ++ drop (at + 4) xs) (append_cancel_left (take at xs) (take 4 (drop at xs)) (le32 n) (sym (take-add at 4 xs) ∙ front))

-- numbers are told by their bytes
head_told : (k n kind m : ℕ) (y z rest : List ℕ) → n < 2 ^ 32 → m < 2 ^ 32 → k ∷ (le32 n ++ y) ≡ ((kind ∷ le32 m) ++ z) ++ rest → (k ≡ kind) × (n ≡ m) × (y ≡ z ++ rest)
unfolding le32
head_told k n kind m y z rest a b h =
    (ap (λ (l : List ℕ). get_or l 0 0) h, sym (from_le_bytes-to_le_bytes_4 n a) ∙ ap (λ (l : List ℕ). from_le_bytes w32 (take 4 (drop 1 l))) h ∙ from_le_bytes-to_le_bytes_4 m b, ap (drop 5) h)

number_told : (n m : ℕ) (y z rest : List ℕ) → n < 2 ^ 32 → m < 2 ^ 32 → le32 n ++ y ≡ (le32 m ++ z) ++ rest → (n ≡ m) × (y ≡ z ++ rest)
unfolding le32
number_told n m y z rest a b h = (sym (from_le_bytes-to_le_bytes_4 n a) ∙ ap (λ (l : List ℕ). from_le_bytes w32 (take 4 l)) h ∙ from_le_bytes-to_le_bytes_4 m b, ap (drop 4) h)

-- the names of a path, one after the other
module _ (bytes : List ℕ) (at end : ℕ) (names : List (List ℕ)) (front : take at bytes ≡ path_bytes names) (slash : get_or bytes at 0 ≡ 47) (lt : at < length bytes) (order : at + 1 ≤ end) where
  pub name_more : (name : List ℕ) → name ≡ take (end - (at + 1)) (drop (at + 1) bytes) → take end bytes ≡ path_bytes (names ++ name ∷ [])
  name_more name is =
      let sum : end ≡ at + 1 + (end - (at + 1)) = omega arith in
      ap (λ (n : ℕ). take n bytes) sum ∙ take-add (at + 1) (end - (at + 1)) bytes
      ∙ ap (λ (l : List ℕ). l ++ take (end - (at + 1)) (drop (at + 1) bytes)) (take_more bytes at 0 lt ∙ ap (λ (l : List ℕ). l ++ get_or bytes at 0 ∷ []) front ∙ ap (λ (b : ℕ). path_bytes names ++ b ∷ []) slash)
      ∙ ap (λ (l : List ℕ). (path_bytes names ++ 47 ∷ []) ++ l) (sym is) ∙ append_assoc (path_bytes names) (47 ∷ []) name ∙ sym (path_bytes-push names name)

-- the path that is read: its parts are names, or the bytes are no path
pub path_read : (bytes : List ℕ) (parts path : List (List ℕ)) → bytes ≢ [] → bytes ≡ path_bytes parts → AreNames path → path ≡ parts → IsPath path × (bytes ≡ path_bytes path)
path_read bytes parts path long is named same =
    let spelled : bytes ≡ path_bytes path = is ∙ ap path_bytes (sym same) in
    (record { some = λ root. long (spelled ∙ ap path_bytes root); named = named }, spelled)

pub path_off : (bytes : List ℕ) (parts : List (List ℕ)) → bytes ≡ path_bytes parts → All IsPart parts → (AreNames parts → ⊥) → (path : List (List ℕ)) → IsPath path → bytes ≡ path_bytes path → ⊥
path_off bytes parts is plain off path is_path h =
    let same : path ≡ parts = path_once path parts (names_are_parts path is_path.named) plain (sym h ∙ is) in
    off (subst AreNames same is_path.named)

pub path_begins : (bytes : List ℕ) → (get_or bytes 0 0 ≡ 47 → ⊥) → (path : List (List ℕ)) → IsPath path → bytes ≡ path_bytes path → ⊥
path_begins bytes off [] is h = is.some refl
path_begins bytes off (name ∷ names) is h = off (ap (λ (l : List ℕ). get_or l 0 0) h)

-- the head of an entry
length-head_bytes : (kind : ℕ) (path : List (List ℕ)) (rest : List ℕ) → length (head_bytes kind path ++ rest) ≡ 5 + path_length path + length rest
unfolding le32
length-head_bytes kind path rest = let p = length-path_bytes path in omega (arith, length-append (path_bytes path) rest, p)

pub head_short : (xs : List ℕ) (at : ℕ) → length xs - at < 5 → (kind : ℕ) (path : List (List ℕ)) (rest : List ℕ) → drop at xs ≡ head_bytes kind path ++ rest → ⊥
head_short xs at short kind path rest h = let size = ap length h ∙ length-head_bytes kind path rest in omega (arith, size, length-drop at xs)

module _ (xs : List ℕ) (at n : ℕ) (long : 5 ≤ length xs - at) (small : n < 2 ^ 32) (front : take (at + 1 + 4) xs ≡ take (at + 1) xs ++ le32 n) where
  head_at : drop at xs ≡ get_or xs at 0 ∷ (le32 n ++ drop (at + 5) xs)
  head_at =
      let lt : at < length xs = omega arith in
      let sum : at + 1 + 4 ≡ at + 5 = omega arith in
      drop_more xs at 0 lt ∙ ap (λ (l : List ℕ). get_or xs at 0 ∷ l) (number_at xs (at + 1) n front ∙ ap (λ (k : ℕ). le32 n ++ drop k xs) sum)

  told : (kind : ℕ) (path : List (List ℕ)) (rest : List ℕ) → path_length path < 2 ^ 32 → drop at xs ≡ head_bytes kind path ++ rest → (get_or xs at 0 ≡ kind) × (n ≡ path_length path) × (drop (at + 5) xs ≡ path_bytes path ++ rest)
  told kind path rest short h = head_told (get_or xs at 0) n kind (path_length path) (drop (at + 5) xs) (path_bytes path) rest small short (sym head_at ∙ h)

  pub head_cut : length xs - (at + 5) < n → (kind : ℕ) (path : List (List ℕ)) (rest : List ℕ) → path_length path < 2 ^ 32 → drop at xs ≡ head_bytes kind path ++ rest → ⊥
  head_cut cut kind path rest short h =
      let t = told kind path rest short h in
      let size = ap length t.2 ∙ length-append (path_bytes path) rest in
      omega (arith, size, length-drop (at + 5) xs, length-path_bytes path, t.1)

  pub head_off : (part : List ℕ) → part ≡ take n (drop (at + 5) xs) → ((path : List (List ℕ)) → IsPath path → part ≡ path_bytes path → ⊥) → (kind : ℕ) (path : List (List ℕ)) (rest : List ℕ) → IsPath path → path_length path < 2 ^ 32 → drop at xs ≡ head_bytes kind path ++ rest → ⊥
  head_off part is none kind path rest is_path short h =
      let t = told kind path rest short h in
      none path is_path (is ∙ ap (take n) t.2 ∙ take_at (path_bytes path) rest n (length-path_bytes path ∙ sym t.1))

  pub head_read : n ≤ length xs - (at + 5) → (part : List ℕ) (path : List (List ℕ)) → part ≡ take n (drop (at + 5) xs) → part ≡ path_bytes path → (path_length path < 2 ^ 32) × Stands xs at (at + 5 + n) (head_bytes (get_or xs at 0) path)
  head_read within part path is spelled =
      let size : path_length path ≡ n = sym (length-path_bytes path) ∙ ap length (sym spelled ∙ is) ∙ length-take-le n (drop (at + 5) xs) (omega (arith, length-drop (at + 5) xs)) in
      let short : path_length path < 2 ^ 32 = omega (arith, size, small) in
      let rest = drop (at + 5 + n) xs in
      let behind : drop (at + 5) xs ≡ path_bytes path ++ rest = cut_at xs (at + 5) n ∙ ap (λ (l : List ℕ). l ++ rest) (sym is ∙ spelled) in
      let whole : drop at xs ≡ get_or xs at 0 ∷ (le32 (path_length path) ++ (path_bytes path ++ rest)) = head_at ∙ ap (λ (l : List ℕ). get_or xs at 0 ∷ (le32 n ++ l)) behind ∙ ap (λ (m : ℕ). get_or xs at 0 ∷ (le32 m ++ (path_bytes path ++ rest))) (sym size) in (
        short,
        record {
          order = omega arith;
          within = omega arith;
          is = whole ∙ ap (λ (l : List ℕ). get_or xs at 0 ∷ l) (sym (append_assoc (le32 (path_length path)) (path_bytes path) rest));
        },
      )

-- the content of a file
length-content_bytes : (content rest : List ℕ) → length (content_bytes content ++ rest) ≡ 4 + length content + length rest
unfolding le32
length-content_bytes content rest = omega (arith, length-append content rest)

pub content_short : (xs : List ℕ) (at : ℕ) → length xs - at < 4 → (content rest : List ℕ) → drop at xs ≡ content_bytes content ++ rest → ⊥
content_short xs at short content rest h = let size = ap length h ∙ length-content_bytes content rest in omega (arith, size, length-drop at xs)

module _ (xs : List ℕ) (at n : ℕ) (long : 4 ≤ length xs - at) (small : n < 2 ^ 32) (front : take (at + 4) xs ≡ take at xs ++ le32 n) where
  pub content_cut : length xs - (at + 4) < n → (content rest : List ℕ) → length content < 2 ^ 32 → drop at xs ≡ content_bytes content ++ rest → ⊥
  content_cut cut content rest short h =
      let t = number_told n (length content) (drop (at + 4) xs) content rest small short (sym (number_at xs at n front) ∙ h) in
      let size = ap length t.1 ∙ length-append content rest in
      omega (arith, size, length-drop (at + 4) xs, t.0)

  pub content_read : n ≤ length xs - (at + 4) → (content : List ℕ) → content ≡ take n (drop (at + 4) xs) → (length content < 2 ^ 32) × Stands xs at (at + 4 + n) (content_bytes content)
  content_read within content is =
      let size : length content ≡ n = ap length is ∙ length-take-le n (drop (at + 4) xs) (omega (arith, length-drop (at + 4) xs)) in
      let short : length content < 2 ^ 32 = omega (arith, size, small) in
      let rest = drop (at + 4 + n) xs in
      let behind : drop (at + 4) xs ≡ content ++ rest = cut_at xs (at + 4) n ∙ ap (λ (l : List ℕ). l ++ rest) (sym is) in
      let whole : drop at xs ≡ le32 (length content) ++ (content ++ rest) = number_at xs at n front ∙ ap (λ (l : List ℕ). le32 n ++ l) behind ∙ ap (λ (m : ℕ). le32 m ++ (content ++ rest)) (sym size) in (
        short,
        record {
          order = omega arith;
          within = omega arith;
          is = whole ∙ sym (append_assoc (le32 (length content)) content rest);
        },
      )

-- an entry is a head and what stands behind it
abbrev kind_of : Node (List ℕ) → ℕ
kind_of Dir = 2
kind_of (File bytes) = 1

abbrev behind_head : Node (List ℕ) → List ℕ
behind_head Dir = []
behind_head (File bytes) = content_bytes bytes

node_parts : (path : List (List ℕ)) (node : Node (List ℕ)) → node_bytes path node ≡ head_bytes (kind_of node) path ++ behind_head node
node_parts path Dir = sym (append-nil (head_bytes 2 path))
node_parts path (File bytes) = append_assoc (head_bytes 1 path) (le32 (length bytes)) bytes

entry_parts : (e : Row) (rest : List ℕ) → IsEntry e → entry_bytes e ++ rest ≡ head_bytes (kind_of e.1) e.0 ++ (behind_head e.1 ++ rest)
entry_parts e rest is = ap (λ (l : List ℕ). l ++ rest) (entry_is e is.some ∙ node_parts e.0 e.1) ∙ append_assoc (head_bytes (kind_of e.1) e.0) (behind_head e.1) rest

same_head : (k kind : ℕ) (p path : List (List ℕ)) (x y : List ℕ) → AreNames p → AreNames path → path_length p < 2 ^ 32 → path_length path < 2 ^ 32 → head_bytes k p ++ x ≡ head_bytes kind path ++ y → (k ≡ kind) × (p ≡ path) × (x ≡ y)
same_head k kind p path x y a b small short h =
    let t = head_told k (path_length p) kind (path_length path) (path_bytes p ++ x) (path_bytes path) y small short (ap (λ (l : List ℕ). k ∷ l) (sym (append_assoc (le32 (path_length p)) (path_bytes p) x)) ∙ h) in
    let s = path_in_front p path x y a b t.1 t.2 in
    (t.0, s.0, s.1)

pub head_none : (xs : List ℕ) (at : ℕ) → ((kind : ℕ) (path : List (List ℕ)) (rest : List ℕ) → IsPath path → path_length path < 2 ^ 32 → drop at xs ≡ head_bytes kind path ++ rest → ⊥) → (e : Row) (rest : List ℕ) → IsEntry e → drop at xs ≡ entry_bytes e ++ rest → ⊥
head_none xs at none e rest is h = none (kind_of e.1) e.0 (behind_head e.1 ++ rest) (record { some = is.some; named = is.named }) is.path (h ∙ entry_parts e rest is)

module _ (xs : List ℕ) (at k end : ℕ) (path : List (List ℕ)) (is_path : IsPath path) (small : path_length path < 2 ^ 32) (stands : Stands xs at end (head_bytes k path)) where
  same_start : (e : Row) (rest : List ℕ) → IsEntry e → drop at xs ≡ entry_bytes e ++ rest → (k ≡ kind_of e.1) × (path ≡ e.0) × (drop end xs ≡ behind_head e.1 ++ rest)
  same_start e rest is h = same_head k (kind_of e.1) path e.0 (drop end xs) (behind_head e.1 ++ rest) is_path.named is.named small is.path (sym stands.is ∙ h ∙ entry_parts e rest is)

  pub kind_off : k ≢ 2 → k ≢ 1 → (e : Row) (rest : List ℕ) → IsEntry e → drop at xs ≡ entry_bytes e ++ rest → ⊥
  kind_off no_directory no_file (p, Dir) rest is h = no_directory (same_start (p, Dir) rest is h).0
  kind_off no_directory no_file (p, File bytes) rest is h = no_file (same_start (p, File bytes) rest is h).0

  pub directory_read : k ≡ 2 → IsEntry (path, Dir) × Stands xs at end (entry_bytes (path, Dir))
  directory_read is =
      let e : IsEntry (path, Dir) = record { some = is_path.some; named = is_path.named; path = small; content = omega arith } in
      let same : head_bytes k path ≡ entry_bytes (path, Dir) = ap (λ (b : ℕ). head_bytes b path) is ∙ sym (entry_is (path, Dir) is_path.some) in
      (e, subst (Stands xs at end) same stands)

  pub content_none : k ≡ 1 → ((content rest : List ℕ) → length content < 2 ^ 32 → drop end xs ≡ content_bytes content ++ rest → ⊥) → (e : Row) (rest : List ℕ) → IsEntry e → drop at xs ≡ entry_bytes e ++ rest → ⊥
  content_none file none (p, Dir) rest is h = let s = same_start (p, Dir) rest is h in let kind : k ≡ 2 = s.0 in omega (arith, file, kind)
  content_none file none (p, File bytes) rest is h = let s = same_start (p, File bytes) rest is h in none bytes rest is.content s.2

  pub file_read : k ≡ 1 → (stop : ℕ) (content : List ℕ) → length content < 2 ^ 32 → Stands xs end stop (content_bytes content) → IsEntry (path, File content) × Stands xs at stop (entry_bytes (path, File content))
  file_read is stop content short behind =
      let e : IsEntry (path, File content) = record { some = is_path.some; named = is_path.named; path = small; content = short } in
      let a = stands.order in
      let b = behind.order in (
        e,
        record {
          order = omega (arith, a, b);
          within = behind.within;
          is = stands.is ∙ ap (λ (l : List ℕ). head_bytes k path ++ l) behind.is ∙ ap (λ (b : ℕ). head_bytes b path ++ (content_bytes content ++ drop stop xs)) is ∙ sym (entry_parts (path, File content) (drop stop xs) e);
        },
      )
