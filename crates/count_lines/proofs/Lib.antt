pub mod SharedLines
pub mod OneByOne
