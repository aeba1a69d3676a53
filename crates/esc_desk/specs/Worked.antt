-- Manifests of a row or two and some arrivals, to compute the definitions at.
use Rattle.std.specs.Prelude.{ℕ, List, [], ◌∷◌, ◌++◌, Bool, Some, None, Result, Ok, pos, codes}
use Rattle.std.specs.Prelude.{if◌then◌else◌}
use Rattle.std.specs.Str.{bytes_eq}
use Rattle.esc_bundle.specs.declared.refusal.Refusal.{Refusal}
use Rattle.esc_envelope.specs.declared.kind.Kind.TheVariants.{Domain}
use Rattle.esc_envelope.specs.declared.place.DepositType.TheVariants.{Full, Diff}
use Rattle.esc_envelope.specs.HeaderValue.{HeaderValue}
use Rattle.esc_tables.specs.DepositValue.{DepositValue}
use Rattle.esc_tables.specs.KeyName.{KeyName}
use Rattle.esc_tables.specs.ObjectValue.{ObjectValue}
use Rattle.esc_manifest.specs.declared.row.MRow.{MRow}
use Rattle.esc_store.specs.declared.reply.Verdict.TheVariants.{A1, A2, A5}
use Rattle.esc_store.specs.ReplyValue.{ReplyValue}
use Rattle.esc_events.specs.ArrivalValue.{ArrivalValue, an_arrival}
use Rattle.esc_events.specs.Events.{EventValue, Coming, coming, manifest_then}
use Rattle.esc_events.specs.Events.EventValue.{listed, arrived}
use Rattle.esc_events.specs.FirstVersion.{events_before}

-- a body is its own digest
abbrev pub itself : List ℕ → List ℕ
itself body = body

abbrev pub full_header : HeaderValue
full_header = record {
  id = codes "F1";
  place = record { watermark = pos 0; kind = Full };
  prev = None;
  resend = 0;
}

-- each body reads as one Full
abbrev pub reads_full : List ℕ → Result DepositValue Refusal
reads_full body
    = Ok (record { header = full_header; counts = []; deletes = []; contents = []; orphans = 3 })

-- the Full is listed, with the body `f1`
abbrev pub one_row : List MRow
one_row = record { header = full_header; digest = codes "f1" } ∷ []

-- the Full arrives as number 1, as number 9, and another body as number 1
abbrev pub full_1 : ArrivalValue
full_1 = an_arrival (codes "1") (codes "f1")

abbrev pub full_9 : ArrivalValue
full_9 = an_arrival (codes "9") (codes "f1")

abbrev pub other_1 : ArrivalValue
other_1 = an_arrival (codes "1") (codes "x")

-- the reply where the Full is held
abbrev pub held_reply : ℕ → List ℕ → Bool → ReplyValue
held_reply n number again = record {
  receipt = n;
  number = number;
  verdict = A1;
  id = Some (codes "F1");
  resend = Some 0;
  again = Some again;
  orphans = Some 3;
}

-- the reply where the body isn't listed
abbrev pub unlisted_reply : ℕ → List ℕ → ReplyValue
unlisted_reply n number = record {
  receipt = n;
  number = number;
  verdict = A5;
  id = None;
  resend = None;
  again = None;
  orphans = None;
}

-- the Full is listed, and then these arrive
abbrev pub listed_then : List ArrivalValue → List EventValue
listed_then l = manifest_then one_row l

-- the arrival as it came then
abbrev pub came : ArrivalValue → Coming
came a = coming one_row a

-- ---- a store of version 1

abbrev pub a_domain : List ℕ → KeyName
a_domain name = record { kind = Domain; text = name }

abbrev pub of_domain : List ℕ → ObjectValue
of_domain name = record {
  parent = record { table = codes "domain"; cells = (codes "name", name) ∷ [] };
  children = [];
}

-- a Differential on the Full
abbrev pub diff_header : HeaderValue
diff_header = record {
  id = codes "D2";
  place = record { watermark = pos 1; kind = Diff };
  prev = Some (codes "F1");
  resend = 0;
}

-- a deposit of one domain
abbrev pub one_domain : HeaderValue → List ℕ → DepositValue
one_domain header name = record {
  header = header;
  counts = [];
  deletes = [];
  contents = (a_domain name, of_domain name) ∷ [];
  orphans = 0;
}

-- the body `d2` reads as the Differential, with the domain b; each other as the Full, with a
abbrev pub reads_either : List ℕ → Result DepositValue Refusal
reads_either body = if bytes_eq body (codes "d2") then Ok (one_domain diff_header (codes "b"))
    else Ok (one_domain full_header (codes "a"))

-- both are listed
abbrev pub two_rows : List MRow
two_rows = record { header = full_header; digest = codes "f1" }
    ∷ record { header = diff_header; digest = codes "d2" } ∷ []

-- the Differential arrives as number 2
abbrev pub diff_2 : ArrivalValue
diff_2 = an_arrival (codes "2") (codes "d2")

-- the Full is listed, and then it and the Differential came to a store of version 1
abbrev pub migrated : List EventValue
migrated = events_before one_row (full_1 ∷ diff_2 ∷ [])

-- the Differential is listed, and comes again
abbrev pub amended_then_again : List EventValue
amended_then_again = migrated ++ listed two_rows ∷ arrived diff_2 ∷ []

-- it comes again, and is listed
abbrev pub again_then_amended : List EventValue
again_then_amended = migrated ++ arrived diff_2 ∷ listed two_rows ∷ []

-- the reply where the body wasn't listed, and wasn't kept
abbrev pub lost_reply : ℕ → List ℕ → ReplyValue
lost_reply n number = record {
  receipt = n;
  number = number;
  verdict = A2;
  id = None;
  resend = None;
  again = None;
  orphans = None;
}
