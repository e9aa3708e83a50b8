pub mod BatchText
