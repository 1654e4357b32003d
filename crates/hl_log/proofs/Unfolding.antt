-- The parts of a unit as they are written one after the other.
use Rattle.std.proofs.Common.{◌≡◌, inl, inr, ℕ, ◌+◌, ◌-◌, Bool, false, List, [], ◌∷◌, ◌++◌, length, take, drop, map, refl, sym, ◌∙◌, ap, subst, arith, append_assoc, append-nil, length-drop}
use Rattle.std.specs.List.{range_with_len}
use Rattle.std.proofs.lemmas.List.{drop-drop, length-take-le, map-append}
use Rattle.hl_media.specs.History.{Image}
use Rattle.hl_addr.specs.Layout.{Layout}
use Rattle.hl_bytes.specs.declared.records.BlockRecord.{BlockRecord}
use Rattle.hl_bytes.specs.declared.records.TableRecord.{TableRecord}
use Rattle.hl_summary.specs.declared.parts.Summary.{Summary}
use Rattle.hl_image.specs.declared.place.LogPlace.{LogPlace}
use Rattle.hl_image.specs.Places.{block_at}
use Rattle.hl_image.specs.Parts.{next_of}
use Rattle.hl_image.specs.Chain.{cut, end_of, Covers}
use Rattle.hl_image.proofs.ChainLemmas.{cut_open}
use Rattle.hl_log.specs.declared.piece.Piece.{Piece}
use Rattle.hl_log.specs.Cut.{AreCut, addresses, summary_of, summaries}
use Rattle.hl_log.proofs.Cutting.{blocks_in, tables_in}
use Rattle.hl_log.proofs.Runs.{map_range_same}

-- what parts say of themselves of which none is the last
abbrev pub opens : ℕ → List BlockRecord → List TableRecord → List Piece → List Summary
opens serial records changes [] = []
opens serial records changes (p ∷ ps) = summary_of serial false records changes p ∷ opens (serial + 1) (drop p.blocks records) (drop p.tables changes) ps

-- the addresses of the blocks of parts that begin at this place
abbrev pub blocks_at : Layout → LogPlace → List Summary → List ℕ
blocks_at g at [] = []
blocks_at g at (s ∷ parts) = range_with_len (block_at g at + 1) (length s.blocks) ++ blocks_at g (next_of s) parts

-- the part behind those that are done
abbrev pub next_summary : ℕ → Bool → List BlockRecord → List TableRecord → List Piece → Piece → Summary
next_summary serial ends records changes done p = summary_of (serial + length done) ends (drop (blocks_in done) records) (drop (tables_in done) changes) p

next_after : (serial : ℕ) (ends : Bool) (records : List BlockRecord) (changes : List TableRecord) (q : Piece) (done : List Piece) (p : Piece)
    → next_summary (serial + 1) ends (drop q.blocks records) (drop q.tables changes) done p ≡ next_summary serial ends records changes (q ∷ done) p
next_after serial ends records changes q done p =
    let e : serial + 1 + length done ≡ serial + length (q ∷ done) = omega arith in
    ap (λ (n : ℕ). summary_of n ends (drop (blocks_in done) (drop q.blocks records)) (drop (tables_in done) (drop q.tables changes)) p) e
    ∙ ap (λ (l : List BlockRecord). summary_of (serial + length (q ∷ done)) ends l (drop (tables_in done) (drop q.tables changes)) p) (drop-drop (blocks_in done) q.blocks records)
    ∙ ap (λ (l : List TableRecord). summary_of (serial + length (q ∷ done)) ends (drop (q.blocks + blocks_in done) records) l p) (drop-drop (tables_in done) q.tables changes)

first_done : (serial : ℕ) (ends : Bool) (records : List BlockRecord) (changes : List TableRecord) (p : Piece) → summary_of serial ends records changes p ≡ next_summary serial ends records changes [] p
first_done serial ends records changes p = let e : serial ≡ serial + 0 = omega arith in ap (λ (n : ℕ). summary_of n ends records changes p) e

pub opens-append : (serial : ℕ) (records : List BlockRecord) (changes : List TableRecord) (done : List Piece) (p : Piece)
    → opens serial records changes (done ++ p ∷ []) ≡ opens serial records changes done ++ next_summary serial false records changes done p ∷ []
opens-append serial records changes [] p = ap (λ (s : Summary). s ∷ []) (first_done serial false records changes p)
opens-append serial records changes (q ∷ done) p =
    ap (λ (l : List Summary). summary_of serial false records changes q ∷ l)
    (opens-append (serial + 1) (drop q.blocks records) (drop q.tables changes) done p
    ∙ ap (λ (s : Summary). opens (serial + 1) (drop q.blocks records) (drop q.tables changes) done ++ s ∷ []) (next_after serial false records changes q done p))

pub summaries-last : (closes : Bool) (serial : ℕ) (records : List BlockRecord) (changes : List TableRecord) (done : List Piece) (p : Piece)
    → summaries closes serial records changes (done ++ p ∷ []) ≡ opens serial records changes done ++ next_summary serial closes records changes done p ∷ []
summaries-last closes serial records changes [] p = ap (λ (s : Summary). s ∷ []) (first_done serial closes records changes p)
summaries-last closes serial records changes (q ∷ []) p =
    ap (λ (l : List Summary). summary_of serial false records changes q ∷ l)
    (summaries-last closes (serial + 1) (drop q.blocks records) (drop q.tables changes) [] p ∙ ap (λ (s : Summary). s ∷ []) (next_after serial closes records changes q [] p))
summaries-last closes serial records changes (q ∷ r ∷ done) p =
    ap (λ (l : List Summary). summary_of serial false records changes q ∷ l)
    (summaries-last closes (serial + 1) (drop q.blocks records) (drop q.tables changes) (r ∷ done) p
    ∙ ap (λ (s : Summary). opens (serial + 1) (drop q.blocks records) (drop q.tables changes) (r ∷ done) ++ s ∷ []) (next_after serial closes records changes q (r ∷ done) p))

-- none of them ends the unit
pub cut_opens : (serial : ℕ) (records : List BlockRecord) (changes : List TableRecord) (done : List Piece) → cut (opens serial records changes done) ≡ []
cut_opens serial records changes [] = refl
cut_opens serial records changes (p ∷ done) =
    cut_open (summary_of serial false records changes p ∷ []) (opens (serial + 1) (drop p.blocks records) (drop p.tables changes) done) (cut_opens (serial + 1) (drop p.blocks records) (drop p.tables changes) done)

pub blocks_at-append : (g : Layout) (at : LogPlace) (parts : List Summary) (s : Summary) → blocks_at g at (parts ++ s ∷ []) ≡ blocks_at g at parts ++ range_with_len (block_at g (end_of at parts) + 1) (length s.blocks)
blocks_at-append g at [] s = append-nil (range_with_len (block_at g at + 1) (length s.blocks))
blocks_at-append g at (q ∷ parts) s =
    ap (λ (l : List ℕ). range_with_len (block_at g at + 1) (length q.blocks) ++ l) (blocks_at-append g (next_of q) parts s)
    ∙ sym (append_assoc (range_with_len (block_at g at + 1) (length q.blocks)) (blocks_at g (next_of q) parts) (range_with_len (block_at g (end_of (next_of q) parts) + 1) (length s.blocks)))

-- images with the same blocks of these parts
pub blocks_same : (g : Layout) (a b : Image) (at : LogPlace) (parts : List Summary) → ((k : ℕ) → Covers g at parts k → a k ≡ b k) → map a (blocks_at g at parts) ≡ map b (blocks_at g at parts)
blocks_same g a b at [] same = refl
blocks_same g a b at (s ∷ parts) same =
    let own = range_with_len (block_at g at + 1) (length s.blocks) in
    let rest = blocks_at g (next_of s) parts in
    map-append a own rest
    ∙ ap (λ (l : List (List ℕ)). l ++ map a rest) (map_range_same a b (block_at g at + 1) (length s.blocks) (λ k le lt. same k (inl (omega arith, omega arith))))
    ∙ ap (λ (l : List (List ℕ)). map b own ++ l) (blocks_same g a b (next_of s) parts (λ k c. same k (inr c)))
    ∙ sym (map-append b own rest)

-- the addresses of a cut unit are those of its parts
pub addresses_are : (g : Layout) (closes : Bool) (serial : ℕ) (records : List BlockRecord) (changes : List TableRecord) (at : LogPlace) (clean : List ℕ) (ps : List Piece) (rest : List ℕ)
    → AreCut g at clean (length records) (length changes) ps rest → addresses g ps ≡ blocks_at g at (summaries closes serial records changes ps)
addresses_are g closes serial records changes at clean [] rest none = absurd none
addresses_are g closes serial records changes at clean (p ∷ []) rest cut =
    let size : length (take p.blocks records) ≡ p.blocks = length-take-le p.blocks records (omega (arith, cut.0.blocks_are)) in
    ap (λ (x : LogPlace). range_with_len (block_at g x + 1) p.blocks ++ []) cut.0.at_is ∙ ap (λ (n : ℕ). range_with_len (block_at g at + 1) n ++ []) (sym size)
addresses_are g closes serial records changes at clean (p ∷ q ∷ ps) rest cut =
    let size : length (take p.blocks records) ≡ p.blocks = length-take-le p.blocks records (omega (arith, cut.1.blocks_are)) in
    let later = subst (λ (n : ℕ). AreCut g p.next cut.0 n (length changes - p.tables) (q ∷ ps) rest) (sym (length-drop p.blocks records)) cut.3 in
    let more = subst (λ (n : ℕ). AreCut g p.next cut.0 (length (drop p.blocks records)) n (q ∷ ps) rest) (sym (length-drop p.tables changes)) later in
    ap (λ (x : LogPlace). range_with_len (block_at g x + 1) p.blocks ++ addresses g (q ∷ ps)) cut.1.at_is
    ∙ ap (λ (n : ℕ). range_with_len (block_at g at + 1) n ++ addresses g (q ∷ ps)) (sym size)
    ∙ ap (λ (l : List ℕ). range_with_len (block_at g at + 1) (length (take p.blocks records)) ++ l)
    (addresses_are g closes (serial + 1) (drop p.blocks records) (drop p.tables changes) p.next cut.0 (q ∷ ps) rest more)
