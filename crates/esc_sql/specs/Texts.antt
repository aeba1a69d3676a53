-- The fixed SQL texts. Those that make the tables are `TABLE_TEXTS` of `create`.
use Rattle.std.specs.Prelude.{ℕ, ◌-◌, List, [], ◌++◌, replicate, codes, slice_index_or}
use Rattle.std.specs.List.{concat}
use Rattle.esc_sql.specs.declared.create.TheConstants.{TABLE_TEXTS}
use Rattle.esc_sql.specs.declared.object.TheConstants.{ROWS_AT_ONCE}

abbrev pub begin_text : List ℕ
begin_text = codes "BEGIN IMMEDIATE"

abbrev pub commit_text : List ℕ
commit_text = codes "COMMIT"

abbrev pub rollback_text : List ℕ
rollback_text = codes "ROLLBACK"

-- the text that makes the table with this index in the schema
abbrev pub table_text : ℕ → List ℕ
table_text at = (slice_index_or TABLE_TEXTS at (record { now = [] })).now

abbrev pub insert_info_text : List ℕ
insert_info_text = codes "INSERT INTO info (id, version) VALUES (1, 2)"

abbrev pub raise_version_text : List ℕ
raise_version_text = codes "UPDATE info SET version = 2"

abbrev pub select_version_text : List ℕ
select_version_text = codes "SELECT version FROM info"

abbrev pub insert_listed_text : List ℕ
insert_listed_text
    = codes "INSERT INTO listed (row, id, type, watermark, prev, resend, digest) VALUES (?1, ?2, ?3, ?4, ?5, ?6, ?7)"

abbrev pub select_listed_text : List ℕ
select_listed_text
    = codes "SELECT row, id, type, watermark, prev, resend, digest FROM listed ORDER BY row"

abbrev pub insert_receipt_text : List ℕ
insert_receipt_text
    = codes
    "INSERT INTO receipt (receipt, number, digest, verdict, fault, row, again, orphans) VALUES (?1, ?2, ?3, ?4, ?5, ?6, ?7, ?8)"

abbrev pub find_receipt_text : List ℕ
find_receipt_text
    = codes
    "SELECT receipt, number, digest, verdict, fault, row, again, orphans FROM receipt WHERE number = ?1 AND digest = ?2"

abbrev pub select_receipts_text : List ℕ
select_receipts_text
    = codes "SELECT receipt, number, digest, verdict, fault, row, again, orphans FROM receipt ORDER BY receipt"

abbrev pub last_receipt_text : List ℕ
last_receipt_text = codes "SELECT receipt FROM receipt ORDER BY receipt DESC LIMIT 1"

abbrev pub verdict_rows_text : List ℕ
verdict_rows_text = codes "SELECT row FROM receipt WHERE verdict = ?1 ORDER BY row"

abbrev pub verdict_digests_text : List ℕ
verdict_digests_text = codes "SELECT digest FROM receipt WHERE verdict = ?1 ORDER BY receipt"

abbrev pub insert_held_text : List ℕ
insert_held_text = codes "INSERT INTO held (row, body) VALUES (?1, ?2)"

abbrev pub find_body_text : List ℕ
find_body_text = codes "SELECT body FROM held WHERE row = ?1"

abbrev pub clear_steps_from_text : List ℕ
clear_steps_from_text = codes "DELETE FROM step WHERE pos >= ?1"

abbrev pub insert_step_text : List ℕ
insert_step_text = codes "INSERT INTO step (pos, row) VALUES (?1, ?2)"

abbrev pub select_steps_text : List ℕ
select_steps_text = codes "SELECT pos, row FROM step ORDER BY pos"

abbrev pub insert_object_text : List ℕ
insert_object_text = codes "INSERT INTO object (kind, key, record) VALUES (?1, ?2, ?3)"

abbrev pub insert_objects_text : List ℕ
insert_objects_text = codes "INSERT INTO object (kind, key, record) VALUES (?, ?, ?)"
    ++ concat (replicate (ROWS_AT_ONCE - 1) (codes ", (?, ?, ?)"))

abbrev pub update_object_text : List ℕ
update_object_text = codes "UPDATE object SET record = ?3 WHERE kind = ?1 AND key = ?2"

abbrev pub delete_object_text : List ℕ
delete_object_text = codes "DELETE FROM object WHERE kind = ?1 AND key = ?2"

abbrev pub clear_objects_text : List ℕ
clear_objects_text = codes "DELETE FROM object"

abbrev pub find_object_text : List ℕ
find_object_text = codes "SELECT record FROM object WHERE kind = ?1 AND key = ?2"

abbrev pub objects_from_text : List ℕ
objects_from_text
    = codes "SELECT kind, key, record FROM object WHERE kind = ?1 AND key >= ?2 ORDER BY kind, key LIMIT 256"

abbrev pub select_kinds_text : List ℕ
select_kinds_text = codes "SELECT kind FROM object ORDER BY kind, key"

abbrev pub insert_undo_text : List ℕ
insert_undo_text = codes "INSERT INTO undo (pos, kind, key, record) VALUES (?1, ?2, ?3, ?4)"

abbrev pub insert_images_text : List ℕ
insert_images_text = codes "INSERT INTO undo (pos, kind, key, record) VALUES (?1, ?, ?, ?)"
    ++ concat (replicate (ROWS_AT_ONCE - 1) (codes ", (?1, ?, ?, ?)"))

abbrev pub select_undo_text : List ℕ
select_undo_text = codes "SELECT kind, key, record FROM undo WHERE pos = ?1 ORDER BY kind, key"

abbrev pub delete_undo_text : List ℕ
delete_undo_text = codes "DELETE FROM undo WHERE pos = ?1"

abbrev pub clear_undo_text : List ℕ
clear_undo_text = codes "DELETE FROM undo"

abbrev pub insert_parked_text : List ℕ
insert_parked_text = codes "INSERT INTO parked (digest, body) VALUES (?1, ?2)"

abbrev pub find_parked_text : List ℕ
find_parked_text = codes "SELECT body FROM parked WHERE digest = ?1"

abbrev pub parked_length_text : List ℕ
parked_length_text = codes "SELECT length(body) FROM parked WHERE digest = ?1"

abbrev pub parked_digests_text : List ℕ
parked_digests_text = codes "SELECT digest FROM parked ORDER BY digest"

abbrev pub delete_parked_text : List ℕ
delete_parked_text = codes "DELETE FROM parked WHERE digest = ?1"

abbrev pub clear_moment_text : List ℕ
clear_moment_text = codes "DELETE FROM moment"

abbrev pub insert_moment_text : List ℕ
insert_moment_text = codes "INSERT INTO moment (id, watermark) VALUES (1, ?1)"

abbrev pub find_moment_text : List ℕ
find_moment_text = codes "SELECT watermark FROM moment"
