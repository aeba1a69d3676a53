-- The words of replies (this project's profile).
use Rattle.std.specs.Prelude.{ℕ, Bool, true, false, List, ◌++◌, codes, Option, Some, None}
use Rattle.std.specs.Fmt.{decimal}
use Rattle.esc_store.specs.declared.reply.Verdict.{Verdict}
use Rattle.esc_store.specs.declared.reply.Verdict.TheVariants.{A1, A2, A3, A4, A5}

abbrev pub verdict_word : Verdict → List ℕ
verdict_word A1 = codes "A1"
verdict_word A2 = codes "A2"
verdict_word (A3 n) = codes "A3"
verdict_word A4 = codes "A4"
verdict_word A5 = codes "A5"

-- whether an earlier receipt has the row with A1
abbrev pub copy_word : Bool → List ℕ
copy_word false = codes "new"
copy_word true = codes "again"

-- why no deposit reads from a body: U and the refusal's number; none for a verdict other than A3
abbrev pub verdict_fault : Verdict → Option (List ℕ)
verdict_fault A1 = None
verdict_fault A2 = None
verdict_fault (A3 n) = Some (codes "U" ++ decimal n)
verdict_fault A4 = None
verdict_fault A5 = None
