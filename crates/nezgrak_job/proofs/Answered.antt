-- The text that was put for the front of the bytes answers all of them.
use Rattle.std.proofs.Common.{◌≡◌, ℕ, ◌≤◌, ◌<◌, ◌⊎◌, List, length, take, IfSome, Option, Some, None, sym, ap, ◌∙◌, take_all, take_at, inl, inr, le_of_lt}
use Rattle.std.proofs.lemmas.Bool.{cases_lt}
use Rattle.limits.specs.Limits.{file_room}
use Rattle.report.specs.Written.{written}
use Rattle.job.specs.Run.{job_text}
use Rattle.job.proofs.LongFiles.{long_file}

front_answers : (bytes : List ℕ) → job_text (take file_room bytes) ≡ job_text bytes
front_answers bytes = by_length (cases_lt (length bytes) file_room)
  where
    by_length : (length bytes < file_room) ⊎ (file_room ≤ length bytes) → job_text (take file_room bytes) ≡ job_text bytes
    by_length (inl h) = ap job_text (take_all file_room bytes (le_of_lt h))
    by_length (inr h) = long_file bytes h

-- `front` was read into a buffer of `room` bytes from a reader, and its answer put at the start of `out`
pub answered : (known : Option (List ℕ)) (room n : ℕ) (front out text : List ℕ) → room ≡ file_room → IfSome known (λ bytes. front ≡ take room bytes)
    → n ≡ length (job_text front) → text ≡ written out 0 (job_text front) → IfSome known (λ bytes. take n text ≡ job_text bytes)
answered None room n front out text r p e q = tt
answered (Some bytes) room n front out text r p e q =
    ap (take n) q ∙ take_at (job_text front) _ n (sym e) ∙ ap job_text (p ∙ ap (λ (m : ℕ). take m bytes) r) ∙ front_answers bytes
