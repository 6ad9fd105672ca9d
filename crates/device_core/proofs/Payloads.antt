-- Payloads as spelled entries.
use Rattle.std.proofs.Common.{◌≡◌, ◌≢◌, ◌↔◌, ℕ, ◌+◌, ◌<◌, ◌≤◌, List, [], ◌∷◌, ◌++◌, length, take, drop, Result, Ok, Err, IsErr, refl, sym, ◌∙◌, ap, subst, arith, length-append, take-append-drop}
use Rattle.std.specs.List.{AllByRecursion}
use Rattle.std.proofs.lemmas.List.{append-nil, take_all, map-append}
use Rattle.entry_form.specs.declared.entry.Entry.{Entry}
use Rattle.entry_codec.specs.declared.fault.EntryRefused.{EntryRefused}
use Rattle.entry_codec.specs.declared.fault.EntryRefused.TheVariants as refused
use Rattle.entry_codec.specs.Spelling.{Fits, spelling, IsUnspelled}
use Rattle.device_core.specs.Images.{IsOffSpelling, IsOffFrom, payloads_of}
use Rattle.std.specs.Int.{w32, to_le_bytes}
use Rattle.device_journal.specs.Frames.{frame, chain, end_of}
use Rattle.device_journal.specs.declared.fault.OpenFault.{OpenFault}
use Rattle.device_journal.specs.declared.fault.OpenFault.TheVariants as faults
use Rattle.std.specs.Prelude.{IfOk}
use Rattle.device_core.specs.Replay.{IsSpelledBy, IsUnread, IsReadFault}

-- what is spelled is read again
abbrev pub ReadsAgain : List ℕ → Result (Entry × ℕ) EntryRefused → Type 0
ReadsAgain payload result = (entry : Entry) (rest : List ℕ) → Fits entry → payload ≡ spelling entry ++ rest → result ≢ Err refused.NoMemory → result ≡ Ok (entry, length (spelling entry))

abbrev used_of : Result (Entry × ℕ) EntryRefused → ℕ
used_of (Ok x) = x.1
used_of (Err e) = 0

-- an entry with bytes behind it spells no other
pub off_behind : (payload : List ℕ) (read : Entry) (used : ℕ) (result : Result (Entry × ℕ) EntryRefused) → result ≡ Ok (read, used) → used < length payload → ReadsAgain payload result → IsOffSpelling payload
off_behind payload read used result was less again entry fits is =
    let found : result ≡ Ok (entry, length (spelling entry)) = again entry [] fits (is ∙ sym (append-nil (spelling entry))) (λ none. absurd (cc (was, none))) in
    let same : used ≡ length (spelling entry) = ap used_of (sym was ∙ found) in
    omega (arith, less, same, ap length is)

pub off_unread : (payload : List ℕ) (result : Result (Entry × ℕ) EntryRefused) (at : ℕ) → result ≡ Err (refused.BadSpelling at) → (result ≢ Err refused.NoMemory → (IsErr result ↔ IsUnspelled payload)) → IsOffSpelling payload
off_unread payload result at was refuses entry fits is =
    let both = refuses (λ none. absurd (cc (was, none))) in
    both.0 (subst IsErr (sym was) refl) entry [] fits (is ∙ sym (append-nil (spelling entry)))

pub whole_read : (payload : List ℕ) (entry : Entry) (used : ℕ) → length payload ≤ used → (used ≤ length payload) × (take used payload ≡ spelling entry) → payload ≡ spelling entry
whole_read payload entry used le found = sym (take_all used payload le) ∙ found.1

all_push : {X : Type 0} (P : X → Type 0) (xs : List X) (x : X) → AllByRecursion P xs → P x → AllByRecursion P (xs ++ x ∷ [])
all_push P [] x all p = (p, tt)
all_push P (y ∷ xs) x all p = (all.0, all_push P xs x all.1 p)

pub end_of-push : (payloads : List (List ℕ)) (payload : List ℕ) → end_of (payloads ++ payload ∷ []) ≡ end_of payloads + 5 + length payload
end_of-push payloads payload = let e = by payloads in omega (arith, e)
  where
    one : length (frame payload) ≡ 5 + length payload
    one = let four : length (to_le_bytes w32 (length payload)) ≡ 4 = refl in omega (arith, four, length-append (to_le_bytes w32 (length payload)) payload)

    by : (ps : List (List ℕ)) → length (chain (ps ++ payload ∷ [])) ≡ length (chain ps) + (5 + length payload)
    by [] = omega (arith, one, length-append (frame payload) [])
    by (p ∷ ps) = let rest = by ps in omega (arith, rest, length-append (frame p) (chain (ps ++ payload ∷ [])), length-append (frame p) (chain ps))

pub payloads-push : (entries : List Entry) (entry : Entry) → payloads_of (entries ++ entry ∷ []) ≡ payloads_of entries ++ spelling entry ∷ []
payloads-push entries entry = map-append spelling entries (entry ∷ [])

pub fit-push : (entries : List Entry) (entry : Entry) → AllByRecursion Fits entries → Fits entry → AllByRecursion Fits (entries ++ entry ∷ [])
fit-push entries entry all one = all_push Fits entries entry all one

-- one payload more is read
pub spelled_more : (payloads : List (List ℕ)) (i : ℕ) (payload : List ℕ) (entries now : List Entry) (entry : Entry) → IsSpelledBy (take i payloads) entries → take (i + 1) payloads ≡ take i payloads ++ payload ∷ [] → (payload ≡ spelling entry) × Fits entry → now ≡ entries ++ entry ∷ [] → IsSpelledBy (take (i + 1) payloads) now
spelled_more payloads i payload entries now entry so_far more read is =
    subst (IsSpelledBy (take (i + 1) payloads)) (sym is) record {
      fit = fit-push entries entry so_far.fit read.1;
      spelled = more ∙ (λ k. so_far.spelled k ++ read.0 k ∷ []) ∙ sym (payloads-push entries entry);
    }

-- the next payload is none
pub off_from : (payloads : List (List ℕ)) (i : ℕ) (payload : List ℕ) (entries : List Entry) (position : ℕ) → IsSpelledBy (take i payloads) entries → drop i payloads ≡ payload ∷ drop (i + 1) payloads → IsOffSpelling payload → position ≡ length entries + 1 → IsOffFrom payloads position
off_from payloads i payload entries position so_far next off place = record {
  before = entries;
  bad = payload;
  after = drop (i + 1) payloads;
  fit = so_far.fit;
  split = sym (take-append-drop i payloads) ∙ (λ k. so_far.spelled k ++ next k);
  off = off;
  place = place;
}

-- why the next payload wasn't read
pub unread_from : (payloads : List (List ℕ)) (i : ℕ) (payload : List ℕ) (entries : List Entry) (position : ℕ) (fault : OpenFault) → IsSpelledBy (take i payloads) entries → drop i payloads ≡ payload ∷ drop (i + 1) payloads → position ≡ length entries + 1 → IsUnread payload position fault → IsReadFault payloads fault
unread_from payloads i payload entries position (faults.BadEntry at) so_far next place unread = off_from payloads i payload entries at so_far next unread.1 (unread.0 ∙ place)
unread_from payloads i payload entries position faults.NoMemory so_far next place unread = tt
unread_from payloads i payload entries position _ so_far next place unread = absurd unread

pub if_ok_map : {T E : Type 0} (r : Result T E) (P Q : T → Type 0) → ((x : T) → P x → Q x) → IfOk r P → IfOk r Q
if_ok_map (Ok x) P Q f p = f x p
if_ok_map (Err e) P Q f p = tt

pub spelled_as : (payloads : List (List ℕ)) (entries now : List Entry) → IsSpelledBy payloads entries → now ≡ entries → IsSpelledBy payloads now
spelled_as payloads entries now spelled is = subst (IsSpelledBy payloads) (sym is) spelled
