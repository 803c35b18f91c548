-- What each word of the group Properties makes of the data stack, memory, the device tree and the active package, or
-- what it throws (IEEE 1275-1994, annex A).
use Rattle.std.specs.Prelude.{Bool, true, false, codes, Result}
use Rattle.of_fcodes.specs.declared.words.PropertiesWord.{PropertiesWord}
use Rattle.of_fcodes.specs.declared.words.PropertiesWord.TheVariants.{Property, EncodeInt, EncodeString, EncodeBytes}
use Rattle.of_fcodes.specs.declared.words.PropertiesWord.TheVariants.{EncodePhys, EncodePlus, DecodeInt, DecodeString}
use Rattle.of_fcodes.specs.declared.words.PropertiesWord.TheVariants.{DecodePhys, Reg, Model, DeviceType, DeviceName}
use Rattle.of_fcodes.specs.declared.words.PropertiesWord.TheVariants.{GetMyProperty, GetInheritedProperty}
use Rattle.of_fcodes.specs.declared.words.PropertiesWord.TheVariants.{GetPackageProperty, DeleteProperty, NextProperty}
use Rattle.of_stacks.specs.declared.throws.Throw.{Throw}
use Rattle.of_board.specs.declared.board.Board.{Board}
use Rattle.of_instances.specs.Encoding.{decode_int_entry, decode_phys_entry, decode_string_entry, encode_bytes_entry}
use Rattle.of_instances.specs.Encoding.{encode_int_entry, encode_phys_entry, encode_plus_entry, encode_string_entry}
use Rattle.of_instances.specs.Finding.{get_inherited_entry, get_my_entry, get_package_entry, next_entry}
use Rattle.of_instances.specs.Setting.{delete_entry, property_entry, reg_entry, string_entry}

-- the table, a word a line
unfoldable pub properties_entry : PropertiesWord → Board → Result Board Throw
properties_entry Property w = property_entry w.stack w
properties_entry EncodeInt w = encode_int_entry w.stack w
properties_entry EncodeString w = encode_string_entry w.stack w
properties_entry EncodeBytes w = encode_bytes_entry w.stack w
properties_entry EncodePhys w = encode_phys_entry w.stack w
properties_entry EncodePlus w = encode_plus_entry w.stack w
properties_entry DecodeInt w = decode_int_entry w.stack w
properties_entry DecodeString w = decode_string_entry w.stack w
properties_entry DecodePhys w = decode_phys_entry w.stack w
properties_entry Reg w = reg_entry w.stack w
properties_entry Model w = string_entry (codes "model") w.stack w
properties_entry DeviceType w = string_entry (codes "device_type") w.stack w
properties_entry DeviceName w = string_entry (codes "name") w.stack w
properties_entry GetMyProperty w = get_my_entry w.stack w
properties_entry GetInheritedProperty w = get_inherited_entry w.stack w
properties_entry GetPackageProperty w = get_package_entry w.stack w
properties_entry DeleteProperty w = delete_entry w.stack w
properties_entry NextProperty w = next_entry w.stack w

-- whether a package may get more properties by the word, for which memory is asked
abbrev pub properties_grows : PropertiesWord → Bool
properties_grows Property = true
properties_grows EncodeInt = false
properties_grows EncodeString = false
properties_grows EncodeBytes = false
properties_grows EncodePhys = false
properties_grows EncodePlus = false
properties_grows DecodeInt = false
properties_grows DecodeString = false
properties_grows DecodePhys = false
properties_grows Reg = true
properties_grows Model = true
properties_grows DeviceType = true
properties_grows DeviceName = true
properties_grows GetMyProperty = false
properties_grows GetInheritedProperty = false
properties_grows GetPackageProperty = false
properties_grows DeleteProperty = false
properties_grows NextProperty = false
