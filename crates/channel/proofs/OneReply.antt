-- Any two replies that a public function's promise admits are equal: read off the promises as the source states them. Assumes nothing.
use mathlib.Core.Path.{◌≡◌}
use Rattle.ground.proofs.OneReply.{one_reply}
use Rattle.channel.proofs.byte.ChannelByte.signalling.Reads as signalling
use Rattle.channel.proofs.byte.ChannelByte.sd.Reads as sd
use Rattle.channel.proofs.byte.ChannelByte.dl.Reads as dl
use Rattle.channel.proofs.byte.ChannelByte.dh.Reads as dh
use Rattle.channel.proofs.byte.ChannelByte.kind.Reads as kind
use Rattle.channel.proofs.unit.fits.Reads as fits
use Rattle.channel.proofs.unit.unit_byte.Reads as unit-byte
use Rattle.channel.proofs.unit.encode.Reads as encode
use Rattle.channel.proofs.unit.is_data.Reads as is-data
use Rattle.channel.proofs.unit.unit_in.Reads as unit-in
use Rattle.channel.proofs.unit.decode.Reads as decode
use Rattle.channel.proofs.unit.word_fits.Reads as word_fits
use Rattle.channel.proofs.unit.encode_word.Reads as encode-word
use Rattle.channel.proofs.unit.word_of.Reads as word_of
use Rattle.channel.proofs.version.shared_version.Reads as shared-version
use Rattle.channel.proofs.vote.vote.Reads as vote

pub signalling_one : (a : _) (r s : _) (x y : _) → signalling.Post tt a r x → signalling.Post tt a s y → r ≡ s
signalling_one a r s x y p q = one_reply _ p q

pub sd_one : (a : _) (r s : _) (x y : _) → sd.Post tt a r x → sd.Post tt a s y → r ≡ s
sd_one a r s x y p q = one_reply _ p q

pub dl_one : (a : _) (r s : _) (x y : _) → dl.Post tt a r x → dl.Post tt a s y → r ≡ s
dl_one a r s x y p q = one_reply _ p q

pub dh_one : (a : _) (r s : _) (x y : _) → dh.Post tt a r x → dh.Post tt a s y → r ≡ s
dh_one a r s x y p q = one_reply _ p q

pub kind_one : (a : _) (r s : _) (x y : _) → kind.Post tt a r x → kind.Post tt a s y → r ≡ s
kind_one a r s x y p q = one_reply _ p.0 q.0

pub fits_one : (a : _) (r s : _) (x y : _) → fits.Post tt a r x → fits.Post tt a s y → r ≡ s
fits_one a r s x y p q = one_reply _ p q

pub unit_byte_one : (a : _) (r s : _) (x y : _) → unit-byte.Post tt a r x → unit-byte.Post tt a s y → r ≡ s
unit_byte_one a r s x y p q = one_reply _ p q

pub encode_one : (a : _) (r s : _) (x y : _) → encode.Post tt a r x → encode.Post tt a s y → r ≡ s
encode_one a r s x y p q = one_reply _ p.0 q.0

pub is_data_one : (a : _) (r s : _) (x y : _) → is-data.Post tt a r x → is-data.Post tt a s y → r ≡ s
is_data_one a r s x y p q = one_reply _ p q

pub unit_in_one : (a : _) (r s : _) (x y : _) → unit-in.Post tt a r x → unit-in.Post tt a s y → r ≡ s
unit_in_one a r s x y p q = one_reply _ p q

pub decode_one : (a : _) (r s : _) (x y : _) → decode.Post tt a r x → decode.Post tt a s y → r ≡ s
decode_one a r s x y p q = one_reply _ p.0 q.0

pub word_fits_one : (a : _) (r s : _) (x y : _) → word_fits.Post tt a r x → word_fits.Post tt a s y → r ≡ s
word_fits_one a r s x y p q = one_reply _ p q

pub encode_word_one : (a : _) (r s : _) (x y : _) → encode-word.Post tt a r x → encode-word.Post tt a s y → r ≡ s
encode_word_one a r s x y p q = one_reply _ p.0 q.0

pub word_of_one : (a : _) (r s : _) (x y : _) → word_of.Post tt a r x → word_of.Post tt a s y → r ≡ s
word_of_one a r s x y p q = one_reply _ p q

pub shared_version_one : (a : _) (r s : _) (x y : _) → shared-version.Post tt a r x → shared-version.Post tt a s y → r ≡ s
shared_version_one a r s x y p q = one_reply _ p.0 q.0

pub vote_one : (a : _) (r s : _) (x y : _) → vote.Post tt a r x → vote.Post tt a s y → r ≡ s
vote_one a r s x y p q = one_reply _ p q
