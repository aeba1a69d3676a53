use Rattle.std.proofs.Common.{sym, ap, ◌∙◌}
use Rattle.std.specs.Result.{result_ok}
use Rattle.hex.specs.Hex.{encode_lower}
use Rattle.hex.proofs.HexLemmas.{decode_sized-encode_lower}
use Rattle.esc_manifest.specs.DigestLaws.{digest_is}
use Rattle.esc_pack.proofs.written.digest_field.Goals as goal

pub returns-clause-read : goal.returns-clause-read
returns-clause-read c =
    let digest = c.args.digest.now in
    sym (digest_is (encode_lower digest))
    ∙ ap result_ok (decode_sized-encode_lower digest 32 c.told-digest c.fits-digest)
